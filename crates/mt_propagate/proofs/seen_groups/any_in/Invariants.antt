use Rattle.std.proofs.Common.{◌≡◌, ◌==◌}
use Rattle.std.specs.List.{list_any}
use Rattle.mt_peers.specs.Coming.{coming}
use Rattle.mt_propagate.specs.World.{world_view, space_of}
use Rattle.mt_propagate.proofs.seen_groups.any_in.Given as goal

-- no mount passed is in the namespace
abbrev pub invariant-loop-id : goal.invariant-loop-id
invariant-loop-id l = record {
  can_next : (goal.iterator-loop-id).can_next l.id-iterator;
  finite : (goal.iterator-loop-id).is_finite l.id-iterator;
  found : list_any (λ i. space_of (world_view l.world) i == l.space) (coming l.id-iterator) ≡ list_any (λ i. space_of (world_view l.world) i == l.space) (coming l.initial.id-iterator);
}
