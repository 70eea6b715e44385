-- What is refused for a lock, behind the refusals of names and paths and before all others (mount_namespaces(7), restrictions on mount
-- namespaces; the order: this project's rule).
-- A word with no source is this project's rule.
use Rattle.std.specs.Prelude.{ℕ, Bool, true, false, cond, not, ◌&&◌, ◌||◌, ◌==◌, List, [], ◌∷◌, ◌++◌, map, Option, Result}
use Rattle.std.specs.List.{filter, list_any}
use Rattle.std.specs.Option.{option_map_or}
use Rattle.mt_skel.specs.declared.fault.Fault.{Fault}
use Rattle.mt_skel.specs.declared.fault.Fault.TheVariants.{NotMountRoot, RootPlace, Unbindable, Detached, Locked, LockedInside, LockedAttr}
use Rattle.mt_skel.specs.Keyed.{among}
use Rattle.mt_skel.specs.Outcome.{refuse_if, refusal_of}
use Rattle.mt_mounts.specs.declared.mount.Attrs.{Attrs}
use Rattle.mt_mounts.specs.declared.mount.Atime.{Atime}
use Rattle.mt_mounts.specs.declared.mount.Atime.TheVariants.{Relatime, Noatime, Strictatime}
use Rattle.mt_mounts.specs.declared.mount.Place.{Place}
use Rattle.mt_mounts.specs.Forest.{id_of, parent}
use Rattle.mt_locks.specs.declared.mount_locks.MountLocks.{MountLocks}
use Rattle.mt_locks.specs.Locks.{is_locked, locked_ids}
use Rattle.mt_propagate.specs.World.{WorldView, is_tree, state_of}
use Rattle.mt_propagate.specs.Named.{place_or_nowhere, mount_or_unknown, is_root_place, is_root_mount, is_mount_root}
use Rattle.mt_setattr.specs.declared.change.Change.{Change}
use Rattle.mt_setattr.specs.Change.{changed_attrs, is_chosen, attributed_refusals}
use Rattle.mt_bind.specs.Sources.{is_bound_along, stands_within}
use Rattle.mt_unmount.specs.Detaching.{topmost}

-- two flags are the same, and two access times
abbrev pub same_flag : Bool → Bool → Bool
same_flag a b = cond a b (not b)

abbrev pub same_atime : Atime → Atime → Bool
same_atime Relatime Relatime = true
same_atime Noatime Noatime = true
same_atime Strictatime Strictatime = true
same_atime a b = false

-- a flag that is locked is taken away
abbrev pub loses : Bool → Bool → Bool
loses locked now = locked && not now

-- attributes are changed, of which some are locked: one of ro, nosuid, nodev and noexec is taken away, or access times are not as they were
-- (mount_namespaces(7): these flags are locked, and so are the atime ones)
abbrev pub changes_locked : MountLocks → Attrs → Attrs → Bool
changes_locked k a b =
    loses k.ro b.ro || loses k.nosuid b.nosuid || loses k.nodev b.nodev || loses k.noexec b.noexec
    || (k.atime && not (same_flag a.nodiratime b.nodiratime && same_atime a.atime b.atime))

module _ (w : WorldView) where
  -- what a bind copies: the mount of the source, or the tree of mounts below it
  abbrev pub bound_ids : Bool → Place → List ℕ
  bound_ids recursive p = cond recursive (map id_of (filter (λ m. is_bound_along w p m.id) w.forest)) (p.mount ∷ [])

  -- the copy of a mount copy_shows where another one stands on that: all of it but the top is copied whole
  abbrev pub copy_shows : Place → ℕ → ℕ → Bool
  copy_shows p on i = not (on == p.mount) || stands_within w p.dir i

  -- a mount is left out that stands where a copy shows it, and is not copied
  abbrev pub leaves_out : Bool → Place → ℕ → Bool
  leaves_out recursive p i =
      let ids : List ℕ = bound_ids recursive p in
      not (among ids i) && option_map_or (λ on. among ids on && copy_shows p on i) (parent w.forest i) false

  -- one that is locked on its place, so that the copy would show what it covers (mount_namespaces(7): mounts that came as one unit are
  -- locked together)
  abbrev pub uncovers : Bool → Place → Bool
  uncovers recursive p = list_any (leaves_out recursive p) (locked_ids w.locks)

  -- a change takes away what is locked of a mount that it is of (mount_namespaces(7))
  abbrev pub unlocks : Change → ℕ → MountLocks → Bool
  unlocks c i k = is_chosen w c i k.mount && changes_locked k (mount_or_unknown w k.mount).attrs (changed_attrs c (mount_or_unknown w k.mount).attrs)

  abbrev pub unlocks_some : Change → ℕ → Bool
  unlocks_some c i = list_any (unlocks c i) w.locks.mounts

  -- a path of a namespace that is no tree has to name a mount that is no root mount
  abbrev pub named_refusals : ℕ → Result Place Fault → Place → List (Option Fault)
  named_refusals n at p =
      refuse_if (is_tree w n) Detached
      ∷ refusal_of at
      ∷ refuse_if (not (is_mount_root w p)) NotMountRoot
      ∷ refuse_if (is_root_mount w p) RootPlace ∷ []

  -- a path has to lead to a place
  abbrev pub place_refusals : Result Place Fault → List (Option Fault)
  place_refusals to = refusal_of to ∷ refuse_if (is_root_place w (place_or_nowhere to)) RootPlace ∷ []

  -- the mount that is named is locked on its place
  abbrev pub locked_refusal : Place → List (Option Fault)
  locked_refusal p = refuse_if (is_locked w.locks p.mount) Locked ∷ []

  -- a mount that is moved, and one that becomes the root mount
  abbrev pub move_guard : ℕ → Result Place Fault → Result Place Fault → List (Option Fault)
  move_guard n from to = named_refusals n from (place_or_nowhere from) ++ place_refusals to ++ locked_refusal (place_or_nowhere from)

  -- one that is unmounted, and one that is detached
  abbrev pub unmount_guard : ℕ → Result Place Fault → List (Option Fault)
  unmount_guard n at = named_refusals n at (place_or_nowhere at) ++ locked_refusal (place_or_nowhere at)

  abbrev pub detach_guard : ℕ → Result Place Fault → List (Option Fault)
  detach_guard n at = named_refusals n at (topmost w at) ++ locked_refusal (topmost w at)

  -- what is copied
  abbrev pub source_refusals : Bool → Place → List (Option Fault)
  source_refusals recursive p = refuse_if (state_of w p.mount).unbindable Unbindable ∷ refuse_if (uncovers recursive p) LockedInside ∷ []

  abbrev pub bind_guard : Bool → Result Place Fault → Result Place Fault → List (Option Fault)
  bind_guard recursive from to = refusal_of from ∷ place_refusals to ++ source_refusals recursive (place_or_nowhere from)

  abbrev pub open_guard : Bool → Result Place Fault → List (Option Fault)
  open_guard recursive at = refusal_of at ∷ source_refusals recursive (place_or_nowhere at)

  -- a mount, or a tree of mounts, of which attributes are changed
  abbrev pub change_guard : ℕ → Change → Result Place Fault → List (Option Fault)
  change_guard n c at = attributed_refusals w n c at ++ refuse_if (unlocks_some c (place_or_nowhere at).mount) LockedAttr ∷ []
