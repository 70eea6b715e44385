-- What the laws of this crate say.
-- A word with no source is this project's rule.
use Rattle.std.specs.Prelude.{◌≡◌, ◌↔◌, ℕ, true, false, not, ◌&&◌, List, [], ◌∷◌, map, Option, Some, None, Ok, IsTrue, is_some}
use Rattle.std.specs.List.{filter, list_any}
use Rattle.mt_skel.specs.Keyed.{has}
use Rattle.mt_skel.specs.Skeleton.{IsSkeleton, is_directory}
use Rattle.mt_mounts.specs.declared.mount.Mount.{Mount}
use Rattle.mt_mounts.specs.declared.mount.Place.{Place}
use Rattle.mt_mounts.specs.Forest.{id_of, is_below, stands_on}
use Rattle.mt_mounts.specs.Walk.{walk}
use Rattle.mt_propagate.specs.World.{WorldView, group_of}
use Rattle.mt_propagate.specs.Named.{is_mount_root, is_root_place}
use Rattle.mt_propagate.specs.WellFormed.{IsWellFormed}
use Rattle.mt_propagate.specs.Receivers.{hits, is_attached}
use Rattle.mt_bind.specs.Mounting.{mounted, stands_on_shared, any_unbindable}
use Rattle.mt_reach.specs.declared.row.SeenRow.{SeenRow}
use Rattle.mt_reach.specs.Rows.{seen_at}
use Rattle.mt_reach.specs.Missing.{missing_groups}
use Rattle.mt_reach.specs.Seen.{seen_rows, seen_directory}
use Rattle.mt_reach.specs.Reached.{reached}
use Rattle.mt_reach.specs.Tree.{seen_children}
use Rattle.mt_reach.specs.Walking.{end_of, directory_at}
use Rattle.mt_reach.specs.Refusals.{IsWitness, shared_parent, unbindable_inside, into_itself, off_root, at_root_place, left_outside}

-- from the rows of a well-formed world the mounts that are reached from a directory that is there are its hits (`sharedsubtree`, bind
-- semantics)
abbrev pub ReachedAreHits : Type 0
ReachedAreHits = (w : WorldView) (p : Place) → IsWellFormed w → IsTrue (is_directory w.skel p.dir) → reached (seen_rows w) p.mount (seen_directory w p.dir) ≡ hits w p

-- from the rows of a well-formed world no group is missing: of each mount it is told whether it gets what happens in a group
abbrev pub NoneIsMissing : Type 0
NoneIsMissing = (w : WorldView) → IsWellFormed w → (i : ℕ) (r : SeenRow) → seen_at (seen_rows w) i ≡ Some r → missing_groups (seen_rows w) r ≡ []

-- the places of the mounts that one world has and another had not
abbrev pub new_places : WorldView → WorldView → List (Option Place)
new_places w v = map (λ (m : Mount). m.place) (filter (λ (m : Mount). not (has id_of m.id w.forest)) v.forest)

-- a mount that is accepted makes new mounts just where its path ends, and at that directory of those of the mounts that are reached
-- from there which are in no detached tree (`sharedsubtree`, mount semantics)
abbrev pub MountsComeWhereReached : Type 0
MountsComeWhereReached =
    (w v : WorldView) (n i : ℕ) (name : List ℕ) (path : List (List ℕ)) (p : Place) → IsWellFormed w → mounted w n name path ≡ Ok (v, i) → walk w.skel w.forest n path ≡ Ok p
    → new_places w v ≡ map (λ t. Some (record { mount = t; dir = p.dir })) (p.mount ∷ filter (is_attached w) (reached (seen_rows w) p.mount (seen_directory w p.dir)))

-- the mounts that keep one from being unmounted are none exactly where none stands on it (umount(2), EBUSY)
abbrev pub BusyIsWitnessed : Type 0
BusyIsWitnessed = (w : WorldView) → IsWellFormed w → (i : ℕ) → IsWitness (seen_children (seen_rows w) i) (list_any (stands_on i) w.forest)

-- the parent that keeps a mount from being moved is none exactly where it stands on no shared one (`sharedsubtree`, move semantics)
abbrev pub SharedIsWitnessed : Type 0
SharedIsWitnessed = (w : WorldView) → IsWellFormed w → (i : ℕ) → (shared_parent (seen_rows w) i ≡ None) ↔ (stands_on_shared w i ≡ false)

-- the unbindable mounts that keep a tree from being moved are none exactly where none would come below a shared mount
-- (`sharedsubtree`, move semantics)
abbrev pub UnbindableIsWitnessed : Type 0
UnbindableIsWitnessed = (w : WorldView) → IsWellFormed w → (i dest : ℕ) → IsWitness (unbindable_inside (seen_rows w) i dest) (is_some (group_of w dest) && any_unbindable w i)

-- a path leads to the place p of a well-formed world
abbrev pub PathEndsAt : WorldView → Place → Type 0
PathEndsAt w p = (n : ℕ) × (path : List (List ℕ)) × (walk w.skel w.forest n path ≡ Ok p)

-- a walk of the rows ends on the mount and in the directory that a path leads to (path_resolution(7))
abbrev pub WalksAgree : Type 0
WalksAgree =
    (w : WorldView) (n : ℕ) (path : List (List ℕ)) (p : Place) → IsSkeleton w.skel → IsWellFormed w → walk w.skel w.forest n path ≡ Ok p
    → (r : SeenRow) × (end_of (seen_rows w) n path ≡ Some r) × (r.id ≡ p.mount) × (directory_at r path ≡ seen_directory w p.dir)

-- the mount that a path ends on, but not at the root of, is none exactly where the path names a mount (umount2(2), EINVAL)
abbrev pub OffRootIsWitnessed : Type 0
OffRootIsWitnessed = (w : WorldView) (p : Place) → IsSkeleton w.skel → IsWellFormed w → PathEndsAt w p → (off_root (seen_rows w) p.mount (seen_directory w p.dir) ≡ None) ↔ (is_mount_root w p ≡ true)

-- the root mount that a path ends at is none exactly where the path ends at no root place (pivot_root(2), EBUSY)
abbrev pub RootPlaceIsWitnessed : Type 0
RootPlaceIsWitnessed = (w : WorldView) (p : Place) → IsSkeleton w.skel → IsWellFormed w → PathEndsAt w p → (at_root_place (seen_rows w) p.mount (seen_directory w p.dir) ≡ None) ↔ (is_root_place w p ≡ false)

-- the mounts for which the old root cannot go to a place are none exactly where that is on the new one or below it (pivot_root(2), EINVAL)
abbrev pub OutsideIsWitnessed : Type 0
OutsideIsWitnessed = (w : WorldView) → IsWellFormed w → (new dest : ℕ) → IsWitness (left_outside (seen_rows w) new dest) (not (is_below w.forest new dest))

-- the mounts from one down to the one that it would be moved to are none exactly where that is not below it (mount(2), MS_MOVE)
abbrev pub IntoIsWitnessed : Type 0
IntoIsWitnessed = (w : WorldView) → IsWellFormed w → (i dest : ℕ) → IsWitness (into_itself (seen_rows w) i dest) (is_below w.forest i dest)
