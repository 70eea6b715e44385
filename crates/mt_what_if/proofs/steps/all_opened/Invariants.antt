use Rattle.std.proofs.Common.{◌≡◌, ◌++◌, map, drop}
use Rattle.mt_propagate.specs.World.{world_view}
use Rattle.mt_what_if.specs.Steps.{table_opened}
use Rattle.mt_what_if.proofs.steps.all_opened.Given as goal

-- the tables added, and those to come
abbrev pub invariant-spaces : goal.invariant-spaces
invariant-spaces l = l.mirrors.items ++ map (table_opened (world_view l.world)) (drop l.space-index l.spaces) ≡ map (table_opened (world_view l.world)) l.spaces
