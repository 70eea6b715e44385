use Rattle.std.proofs.Common.{◌≡◌, drop}
use Rattle.std.specs.List.{list_all}
use Rattle.mt_propagate.specs.World.{world_view}
use Rattle.mt_book.specs.Parts.{rests_in}
use Rattle.mt_book.proofs.lone.resting_space.Given as goal

-- the mounts passed rest in the namespace
abbrev pub invariant-mounts : goal.invariant-mounts
invariant-mounts l = list_all (rests_in (world_view l.old) (world_view l.new) l.space) (drop l.id-index l.ids) ≡ list_all (rests_in (world_view l.old) (world_view l.new) l.space) l.ids
