use Rattle.std.proofs.Common.{◌≡◌, ℕ, false, take}
use Rattle.std.specs.Prelude.{IsTrue}
use Rattle.mt_skel.specs.Keyed.{among}
use Rattle.mt_propagate.specs.Turned.{is_below_group}
use Rattle.mt_propagate.proofs.BelowGroupLaws.{has_above}
use Rattle.mt_propagate.proofs.below_groups.push_all_below.Given as goal

-- the mounts below each group passed that has none of the others above it are there, and so are all that were
abbrev pub invariant-groups : goal.invariant-groups
invariant-groups l = record {
  kept : (i : ℕ) → IsTrue (among l.initial.ids.items i) → IsTrue (among l.ids.items i);
  below : (g i : ℕ) → IsTrue (among (take l.group-index l.groups) g) → has_above l.world.peers.peers l.groups g ≡ false → IsTrue (is_below_group l.world.peers.peers g i) → IsTrue (among l.ids.items i);
}
