use Rattle.std.proofs.Common.{◌≡◌, ◌++◌, map, drop}
use Rattle.mt_world.specs.States.{waits_if_kept}
use Rattle.mt_world.proofs.joined.all_lone.Given as goal

abbrev pub invariant-rows : goal.invariant-rows
invariant-rows l = l.lone.items ++ map waits_if_kept (drop l.why-index l.left) ≡ map waits_if_kept l.left
