-- New namespaces: with one private mount, and as a copy of another; and the end of a namespace.
-- A word with no source is this project's rule.
use Rattle.std.specs.Prelude.{ℕ, ◌+◌, Bool, not, ◌==◌, List, [], ◌∷◌, ◌++◌, length, Option, None, is_none, Result}
use Rattle.std.specs.Option.{unwrap_or}
use Rattle.mt_skel.specs.declared.fault.Fault.{Fault}
use Rattle.mt_skel.specs.declared.fault.Fault.TheVariants.{NoFilesystem, NoNamespace, TooMany, Detached}
use Rattle.mt_skel.specs.Keyed.{without}
use Rattle.mt_skel.specs.Outcome.{refuse_if, outcome}
use Rattle.mt_skel.specs.Skeleton.{fs_named, root_of}
use Rattle.mt_mounts.specs.declared.mount.Mount.{Mount}
use Rattle.mt_mounts.specs.Attrs.{new_attrs}
use Rattle.mt_mounts.specs.Forest.{mounts_in}
use Rattle.mt_peers.specs.Loss.{left}
use Rattle.mt_propagate.specs.World.{WorldView, is_space, is_tree, private, space_of}
use Rattle.mt_propagate.specs.Limits.{too_many_mounts, too_many_spaces}
use Rattle.mt_bind.specs.Copying.{with_copies}

-- the root mount of the next namespace, which shows the root of a filesystem
abbrev pub next_root : WorldView → ℕ → Mount
next_root w fs = record { id = w.next_mount; space = w.next_space; place = None; root = root_of w.skel fs; attrs = new_attrs }

-- one namespace more, whose root mount is private
abbrev pub with_root : WorldView → Mount → WorldView
with_root w root = record w {
  forest = w.forest ++ root ∷ [];
  peering = record w.peering { peers = w.peering.peers ++ record { mount = w.next_mount; state = private } ∷ [] };
  next_mount = w.next_mount + 1;
  next_space = w.next_space + 1;
}

-- and shows the root of a filesystem
unfoldable pub with_space : WorldView → ℕ → WorldView
with_space w fs = with_root w (next_root w fs)

-- the refusals of a new namespace, of the filesystem that was found
abbrev pub new_space_refusals : WorldView → Option ℕ → List (Option Fault)
new_space_refusals w fs =
    refuse_if (is_none fs) NoFilesystem
    ∷ refuse_if (too_many_spaces w) TooMany
    ∷ refuse_if (too_many_mounts w 1) TooMany ∷ []

abbrev pub new_space_effect : WorldView → Option ℕ → WorldView × ℕ
new_space_effect w fs = (with_space w (unwrap_or fs 0), w.next_space)

-- a new namespace of a filesystem, and its number
abbrev pub new_space : WorldView → List ℕ → Result (WorldView × ℕ) Fault
new_space w name = outcome (new_space_refusals w (fs_named w.skel name)) (new_space_effect w (fs_named w.skel name))

module _ (w : WorldView) (n : ℕ) where
  -- the mounts of a namespace, by rising ID (mount_namespaces(7))
  abbrev pub originals : List Mount
  originals = mounts_in w.forest n

  -- a copy of each mount of a namespace, in a new one (`sharedsubtree`, clone namespace)
  abbrev pub with_copy : Bool → WorldView
  with_copy less = with_copies w originals less

  -- the refusals of a copy of a namespace, which is no detached tree (that it is not copied: this project's rule)
  abbrev pub copy_space_refusals : List (Option Fault)
  copy_space_refusals =
      refuse_if (not (is_space w n)) NoNamespace
      ∷ refuse_if (is_tree w n) Detached
      ∷ refuse_if (too_many_spaces w) TooMany
      ∷ refuse_if (too_many_mounts w (length originals)) TooMany ∷ []

  abbrev pub copy_space_effect : Bool → WorldView × ℕ
  copy_space_effect less = (with_copy less, w.next_space)

  -- a copy of a namespace, and its number (mount_namespaces(7); the limits: this project's rule)
  abbrev pub copy_space : Bool → Result (WorldView × ℕ) Fault
  copy_space less = outcome copy_space_refusals (copy_space_effect less)

-- all mounts of a namespace vanish with it, and nothing propagates (namespaces(7): a namespace goes with its last
-- process; that masters are settled as after a loss is this project's rule)
unfoldable pub without_space : WorldView → ℕ → WorldView
without_space w n = record w {
  forest = without (λ (m : Mount). m.space == n) w.forest;
  peering = left (λ i. space_of w i == n) w.peering;
  trees = without (λ k. k == n) w.trees;
}

-- the refusals of the end of a namespace
abbrev pub drop_space_refusals : WorldView → ℕ → List (Option Fault)
drop_space_refusals w n = refuse_if (not (is_space w n)) NoNamespace ∷ []

-- the end of a namespace that is there; its number is not given again (namespaces(7); the number: this project's rule)
abbrev pub drop_space : WorldView → ℕ → Result WorldView Fault
drop_space w n = outcome (drop_space_refusals w n) (without_space w n)
