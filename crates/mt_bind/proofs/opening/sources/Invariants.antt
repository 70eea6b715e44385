use Rattle.std.proofs.Common.{◌≡◌, ◌++◌, map, drop}
use Rattle.mt_propagate.specs.World.{world_view}
use Rattle.mt_propagate.specs.Plans.{member_of}
use Rattle.mt_bind.specs.Opening.{unplaced_top}
use Rattle.mt_bind.proofs.opening.sources.Given as goal

-- the members passed are listed
abbrev pub invariant-loop-id : goal.invariant-loop-id
invariant-loop-id l =
    l.mounts.items ++ map (λ i. unplaced_top l.from.mount (member_of (world_view l.world) l.from.mount l.from.dir i)) (drop l.id-index l.id-items)
    ≡ map (λ i. unplaced_top l.from.mount (member_of (world_view l.world) l.from.mount l.from.dir i)) l.id-items
