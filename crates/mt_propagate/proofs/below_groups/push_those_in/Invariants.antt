use Rattle.std.proofs.Common.{ℕ, take}
use Rattle.std.specs.Prelude.{nat_eq, IsTrue}
use Rattle.std.specs.List.{list_any}
use Rattle.mt_skel.specs.Keyed.{among}
use Rattle.mt_propagate.specs.World.{world_view, space_of}
use Rattle.mt_propagate.proofs.below_groups.push_those_in.Given as goal

-- the mounts passed that are in the namespaces are there, and so are all that were
abbrev pub invariant-mounts : goal.invariant-mounts
invariant-mounts l = record {
  kept : (i : ℕ) → IsTrue (among l.initial.ids.items i) → IsTrue (among l.ids.items i);
  those : (i : ℕ) → IsTrue (among (take l.id-index l.mounts) i) → IsTrue (list_any (nat_eq (space_of (world_view l.world) i)) l.spaces) → IsTrue (among l.ids.items i);
}
