-- How mounts are taken away: which go, and where the mounts on them come to stand. No public clause cites this module.
-- A word with no source is this project's rule.
use Rattle.std.specs.Prelude.{◌≡◌, ℕ, Bool, cond, List, Option, Some, None, IsTrue}
use Rattle.std.specs.Option.{option_and_then}
use Rattle.mt_skel.specs.Keyed.{among, rises}
use Rattle.mt_mounts.specs.declared.mount.Place.{Place}
use Rattle.mt_mounts.specs.Forest.{mount_at, on, root_place}
use Rattle.mt_peers.specs.Loss.{left}
use Rattle.mt_propagate.specs.World.{WorldView}
use Rattle.mt_propagate.specs.Carried.{placed, staying}
use Rattle.mt_unmount.specs.Sliding.{slid}

-- the mounts that go, by rising ID
pub record AreGone (goes : ℕ → Bool) (ids : List ℕ) : Type 0 where
  pub rising : IsTrue (rises (λ k. k) ids)
  pub each : (j : ℕ) → among ids j ≡ goes j

-- the mount at a place, if it stays, with its new place
abbrev pub moved_from : WorldView → (ℕ → Bool) → Place → Option (ℕ × Place)
moved_from w goes p = option_and_then (λ m. cond (goes m.id) None (Some (m.id, slid w goes p))) (on w.forest p)

-- the mount that stays and stands at the root of a mount that goes, with its new place
abbrev pub relocation_past : WorldView → (ℕ → Bool) → ℕ → Option (ℕ × Place)
relocation_past w goes i = option_and_then (λ m. moved_from w goes (root_place m)) (mount_at w.forest i)

-- the world without some mounts, and with others at new places
abbrev pub resettled : List ℕ → List (ℕ × Place) → WorldView → WorldView
resettled ids relocations w = record w { forest = placed relocations (staying ids w.forest); peering = left (among ids) w.peering }
