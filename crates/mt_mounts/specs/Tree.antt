-- What is true of the mounts of a forest, and of a forest of trees.
-- A word with no source is this project's rule.
use Rattle.std.specs.Prelude.{◌≡◌, ◌≢◌, ℕ, Bool, true, List, length, Some, None, IsTrue}
use Rattle.mt_skel.specs.Chain.{ends}
use Rattle.mt_mounts.specs.declared.mount.Place.{Place}
use Rattle.mt_mounts.specs.declared.mount.Mount.{Mount}
use Rattle.mt_mounts.specs.Forest.{mount_at, is_at, is_root, parent}

-- No two mounts of the list pass the test.
abbrev pub AtMostOne : (Mount → Bool) → List Mount → Type 0
AtMostOne t ms = (i j : ℕ) (m n : Mount) → mount_at ms i ≡ Some m → mount_at ms j ≡ Some n → t m ≡ true → t n ≡ true → i ≡ j

-- No two mounts are mounted at one place, and no namespace has two root mounts.
pub record IsSingle (ms : List Mount) : Type 0 where
  pub places : (p : Place) → AtMostOne (is_at p) ms
  pub roots : (n : ℕ) → AtMostOne (is_root n) ms

-- From every mount the way up ends: no mount is mounted below itself, as when a mount is moved into its own tree.
abbrev pub HasNoCycle : List Mount → Type 0
HasNoCycle ms = (i : ℕ) → IsTrue (ends (parent ms) (length ms) i)

-- Every mount is mounted on one that is there.
abbrev pub HasParents : List Mount → Type 0
HasParents ms = (x y : ℕ) → parent ms x ≡ Some y → mount_at ms y ≢ None
