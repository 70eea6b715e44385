-- How it is worked out which candidates of a detach go: which mounts hold others. No public clause cites this module.
-- A word with no source is this project's rule.
use Rattle.std.specs.Prelude.{◌≡◌, ℕ, Bool, true, false, cond, not, List, Option, Some, None, IsTrue}
use Rattle.std.specs.List.{filter}
use Rattle.std.specs.Option.{option_and_then}
use Rattle.mt_skel.specs.Keyed.{among}
use Rattle.mt_mounts.specs.declared.mount.Mount.{Mount}
use Rattle.mt_mounts.specs.declared.mount.Place.{Place}
use Rattle.mt_mounts.specs.Forest.{mount_at, parent, children, is_below}
use Rattle.mt_propagate.specs.World.{WorldView}
use Rattle.mt_propagate.specs.Named.{is_mount_root}
use Rattle.mt_unmount.specs.Sliding.{place_of, is_inside}

-- the mounts that stand on a candidate and are not candidates
abbrev pub staying_on : WorldView → (ℕ → Bool) → ℕ → List ℕ
staying_on w candidate i = filter (λ j. not (candidate j)) (children w.forest i)

-- the candidate that a mount stands on
abbrev pub candidate_under : WorldView → (ℕ → Bool) → ℕ → Option ℕ
candidate_under w candidate j = option_and_then (λ i. cond (candidate i) (Some i) None) (parent w.forest j)

-- the mount within whose root a mount stands, at another directory
abbrev pub around : WorldView → ℕ → Option ℕ
around w j = option_and_then (λ (p : Place). cond (is_mount_root w p) None (Some p.mount)) (place_of w j)

-- a mount holds the one on which it stands if it is not a candidate, or if another one holds it
pub record AreHolding (w : WorldView) (candidate : ℕ → Bool) (ids : List ℕ) : Type 0 where
  -- each mount that stands on a candidate and is not one
  pub starts : (i j : ℕ) → candidate i ≡ true → parent w.forest j ≡ Some i → candidate j ≡ false → IsTrue (among ids j)
  -- each candidate on which one of them stands
  pub closed : (i j : ℕ) → candidate i ≡ true → parent w.forest j ≡ Some i → IsTrue (among ids j) → IsTrue (among ids i)
  -- and no other mount: each of them is not a candidate, or has a mount below it that is not one
  pub sound : (i : ℕ) → IsTrue (among ids i) → (j : ℕ) × (m : Mount) × (mount_at w.forest j ≡ Some m) × (candidate j ≡ false) × IsTrue (is_below w.forest i j)

-- a candidate is held if a mount inside it is not a candidate, and otherwise it is not
pub record AreHeld (w : WorldView) (candidate : ℕ → Bool) (held : ℕ → Bool) : Type 0 where
  pub each : (i j : ℕ) (m : Mount) → candidate i ≡ true → mount_at w.forest j ≡ Some m → candidate j ≡ false → is_inside w i j ≡ true → IsTrue (held i)
  pub only : (i : ℕ) → IsTrue (held i) → (j : ℕ) × (m : Mount) × (mount_at w.forest j ≡ Some m) × (candidate j ≡ false) × IsTrue (is_inside w i j)
