-- What comes locked (mount_namespaces(7), restrictions on mount namespaces).
-- A word with no source is this project's rule.
use Rattle.std.specs.Prelude.{ℕ, ◌+◌, ◌*◌, Bool, false, cond, not, ◌&&◌, ◌||◌, ◌==◌, List, [], ◌∷◌, ◌++◌, map, length, Option, Some, None, is_none, Result, Ok, Err}
use Rattle.std.specs.List.{flat_map}
use Rattle.mt_skel.specs.declared.fault.Fault.{Fault}
use Rattle.mt_mounts.specs.declared.mount.Attrs.{Attrs}
use Rattle.mt_mounts.specs.declared.mount.Mount.{Mount}
use Rattle.mt_mounts.specs.declared.mount.Place.{Place}
use Rattle.mt_mounts.specs.Forest.{mounts_in}
use Rattle.mt_locks.specs.declared.mount_locks.MountLocks.{MountLocks}
use Rattle.mt_locks.specs.MountLocks.{with_all_attrs, without_place}
use Rattle.mt_locks.specs.Locks.{owner_of, locks_of, is_locked}
use Rattle.mt_propagate.specs.World.{WorldView, space_of}
use Rattle.mt_propagate.specs.Limits.{too_many_mounts}
use Rattle.mt_propagate.specs.Receivers.{targets}
use Rattle.mt_propagate.specs.Copies.{Source}

-- new mounts are numbered in their order
abbrev pub numbered_from : ℕ → List MountLocks → List MountLocks
numbered_from n [] = []
numbered_from n (k ∷ ks) = record k { mount = n } ∷ numbered_from (n + 1) ks

module _ (w : WorldView) where
  -- a namespace belongs to another user namespace than one in which a command is done
  abbrev pub is_foreign : ℕ → ℕ → Bool
  is_foreign here n = not (owner_of w.locks n == owner_of w.locks here)

  -- what is locked of a mount, with its place or without
  abbrev pub locks_with : Bool → ℕ → MountLocks
  locks_with place i = record (locks_of w.locks i) { place = place }

  -- of a copy is locked what is locked of its source, and in a foreign namespace all; but the top of what is copied is not locked on its
  -- place, so that all of it together can be taken away (mount_namespaces(7): mounts that come as one unit from a more privileged
  -- namespace are locked together)
  abbrev pub locks_of_copy : Bool → ℕ → Mount → MountLocks
  locks_of_copy foreign top m =
      let k : MountLocks = locks_with (not (m.id == top) && (is_locked w.locks m.id || foreign)) m.id in
      cond foreign (with_all_attrs m.attrs k) k

  -- at each of these mounts a copy of each of those, if there may be as many
  abbrev pub copies_locks : ℕ → ℕ → List Mount → List ℕ → List MountLocks
  copies_locks here top ms ts =
      cond (too_many_mounts w (length ts * length ms)) [] (flat_map (λ t. map (locks_of_copy (is_foreign here (space_of w t)) top) ms) ts)

  -- what comes to a place in the namespace `here`, and to its propagation targets
  abbrev pub come_locked : ℕ → Source → Place → List MountLocks
  come_locked here src p = copies_locks here src.top.id src.mounts (cond src.moved (targets w p) (p.mount ∷ targets w p))

  -- what is copied into a tree has the locks of its source, but for the place of the root mount (open_tree(2), OPEN_TREE_CLONE)
  abbrev pub opened_locks : ℕ → List Mount → List MountLocks
  opened_locks top ms = map (locks_of_copy false top) ms

  -- a copy in a copied namespace has the locks of its original; in a less privileged one with locks all attributes are locked, and the
  -- place, if there is one (mount_namespaces(7))
  abbrev pub original_locks : Bool → Mount → MountLocks
  original_locks all m =
      let k : MountLocks = locks_with (is_locked w.locks m.id || (all && not (is_none m.place))) m.id in
      cond all (with_all_attrs m.attrs k) k

  abbrev pub copied_locks : Bool → ℕ → List MountLocks
  copied_locks all n = map (original_locks all) (mounts_in w.forest n)

  -- the owner of the next namespace, if it is not 0
  abbrev pub next_owner : ℕ → Option (ℕ × ℕ)
  next_owner owner = cond (owner == 0) None (Some (w.next_space, owner))

-- what comes where a path leads
abbrev pub where_led : {A : Type 0} → Result Place Fault → (Place → List A) → List A
where_led (Ok p) come = come p
where_led (Err f) come = []
