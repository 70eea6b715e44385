use Rattle.std.proofs.Common.{◌≡◌, drop}
use Rattle.std.specs.List.{list_all}
use Rattle.mt_propagate.specs.World.{world_view}
use Rattle.mt_book.specs.Parts.{stays_in}
use Rattle.mt_book.proofs.lone.lone_space.Given as goal

-- the mounts passed stay in the namespace
abbrev pub invariant-mounts : goal.invariant-mounts
invariant-mounts l = list_all (stays_in (world_view l.old) (world_view l.new) l.space) (drop l.id-index l.ids) ≡ list_all (stays_in (world_view l.old) (world_view l.new) l.space) l.ids
