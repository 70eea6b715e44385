use Rattle.std.proofs.Common.{◌≡◌}
use Rattle.std.specs.List.{find}
use Rattle.mt_peers.specs.Above.{masters_to_come}
use Rattle.mt_propagate.specs.World.{world_view}
use Rattle.mt_propagate.specs.FromGroup.{is_seen}
use Rattle.mt_propagate.proofs.seen_groups.nearest_seen.Given as goal

-- no group passed is seen
abbrev pub invariant-loop-above : goal.invariant-loop-above
invariant-loop-above l = record {
  can_next : (goal.iterator-loop-above).can_next l.above-iterator;
  finite : (goal.iterator-loop-above).is_finite l.above-iterator;
  found : find (is_seen (world_view l.world) l.space) (masters_to_come l.above-iterator) ≡ find (is_seen (world_view l.world) l.space) (masters_to_come l.initial.above-iterator);
}
