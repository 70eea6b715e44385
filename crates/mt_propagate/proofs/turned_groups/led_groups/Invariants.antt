use Rattle.std.proofs.Common.{◌≡◌, ℕ, false, take}
use Rattle.std.specs.Prelude.{IsTrue}
use Rattle.mt_skel.specs.Keyed.{among}
use Rattle.mt_propagate.specs.World.{world_view}
use Rattle.mt_propagate.specs.Turned.{IsLedAlike}
use Rattle.mt_propagate.proofs.turned_groups.led_groups.Given as goal

-- each group passed is there, or has the same master
abbrev pub invariant-groups : goal.invariant-groups
invariant-groups l = (g : ℕ) → IsTrue (among (take l.group-index l.groups) g) → among l.led.items g ≡ false → IsLedAlike (world_view l.before) (world_view l.after) g
