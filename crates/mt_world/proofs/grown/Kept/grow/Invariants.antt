use Rattle.std.proofs.Common.{◌≡◌, ℕ, nat_eq, true, length}
use Rattle.indexmap.specs.IndexMap.{get}
use Rattle.mt_skel.specs.Keyed.{among}
use Rattle.mt_propagate.specs.World.{world_view}
use Rattle.mt_world.specs.Kept.{AreKept, waits_for_parent}
use Rattle.mt_world.specs.Leaves.{IsSound}
use Rattle.mt_world.proofs.grown.Kept.grow.Given as goal

-- what is kept is known, and what waits is still to be tried
abbrev pub invariant-rounds : goal.invariant-rounds
invariant-rounds l = record {
  sound : IsSound (world_view l.world);
  kept : AreKept (world_view l.world) l.rows l.self.left.items (get nat_eq l.self.put);
  room : l.world.skel.room ≡ l.initial.world.skel.room;
  waiting : (k : ℕ) → waits_for_parent l.self.left.items k → among l.waiting.items k ≡ true;
}

abbrev pub decreases-rounds : goal.decreases-rounds
decreases-rounds l = length l.waiting.items
