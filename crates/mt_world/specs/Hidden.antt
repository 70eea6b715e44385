-- Mounts of a hidden namespace, beside those of rows.
-- A word with no source is this project's rule.
use Rattle.std.specs.Prelude.{◌≡◌, ◌⊎◌, ℕ, ◌≤◌, Some, None}
use Rattle.mt_mounts.specs.declared.mount.Mount.{Mount}
use Rattle.mt_mounts.specs.Forest.{mount_at}
use Rattle.mt_propagate.specs.World.{WorldView, private, state_of}
use Rattle.mt_world.specs.Leaves.{IsGrown}

-- the second world has what the first has, with the same states, and what mounts it has more are in the namespace of this number
pub record HasMoreHidden (space : ℕ) (w v : WorldView) : Type 0 where
  pub grown : IsGrown w v
  pub states : (i : ℕ) (m : Mount) → mount_at w.forest i ≡ Some m → state_of v i ≡ state_of w i
  pub numbers : w.next_space ≤ v.next_space
  pub more : (i : ℕ) (m : Mount) → mount_at v.forest i ≡ Some m → (mount_at w.forest i ≡ Some m) ⊎ (m.space ≡ space)

-- a mount is one that was added, private
pub record IsHidden (w v : WorldView) (m : Mount) : Type 0 where
  pub new : mount_at w.forest m.id ≡ None
  pub there : mount_at v.forest m.id ≡ Some m
  pub private : state_of v m.id ≡ private
