use Rattle.std.proofs.Common.{◌≡◌, ℕ, ◌≤◌, nat_eq, true, ◌||◌, Some, length, drop, slice_get}
use Rattle.indexmap.specs.IndexMap.{get}
use Rattle.mt_skel.specs.Keyed.{among}
use Rattle.mt_propagate.specs.World.{world_view}
use Rattle.mt_world.specs.declared.row.TableRow.{TableRow}
use Rattle.mt_world.specs.Kept.{AreKept, IsParentless, waits_for_parent}
use Rattle.mt_world.specs.Leaves.{IsSound}
use Rattle.mt_world.proofs.grown.Kept.round.Given as goal

-- what is kept is known, and what waits is answered or still to be tried; where all that were tried wait, none was put
abbrev pub invariant-turns : goal.invariant-turns
invariant-turns l = record {
  sound : IsSound (world_view l.world);
  kept : AreKept (world_view l.world) l.rows l.self.left.items (get nat_eq l.self.put);
  waiting : (k : ℕ) → waits_for_parent l.self.left.items k → (among l.later.items k || among (drop l.number-index l.waiting) k) ≡ true;
  fewer : length l.later.items ≤ l.number-index;
  room : l.world.skel.room ≡ l.initial.world.skel.room;
  parentless : l.number-index ≤ length l.later.items → (k : ℕ) (row : TableRow) → among l.later.items k ≡ true → slice_get l.rows k ≡ Some row → IsParentless l.rows l.self.left.items row;
}
