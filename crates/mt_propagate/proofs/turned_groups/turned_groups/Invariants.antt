use Rattle.std.proofs.Common.{◌≡◌, ℕ, false, take}
use Rattle.std.specs.Prelude.{IsTrue}
use Rattle.mt_skel.specs.Keyed.{among}
use Rattle.mt_propagate.specs.World.{world_view}
use Rattle.mt_propagate.specs.Turned.{IsQuiet}
use Rattle.mt_propagate.proofs.turned_groups.turned_groups.Given as goal

-- each group passed is there, or is quiet
abbrev pub invariant-groups : goal.invariant-groups
invariant-groups l = (g : ℕ) → IsTrue (among (take l.group-index l.groups) g) → among l.turned.items g ≡ false → IsQuiet (world_view l.before) (world_view l.after) g
