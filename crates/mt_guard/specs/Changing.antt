-- How what is locked changes with a command.
-- A word with no source is this project's rule.
use Rattle.std.specs.Prelude.{ℕ, Bool, true, cond, List, [], Option, None, Some, Result}
use Rattle.mt_skel.specs.declared.fault.Fault.{Fault}
use Rattle.mt_mounts.specs.declared.mount.Place.{Place}
use Rattle.mt_locks.specs.declared.mount_locks.MountLocks.{MountLocks}
use Rattle.mt_locks.specs.Locks.{LocksView, owner_of, changed_locks, kept_locks}
use Rattle.mt_propagate.specs.World.{WorldView}
use Rattle.mt_propagate.specs.Plans.{fresh_source}
use Rattle.mt_setattr.specs.declared.change.SetWords.{SetWords}
use Rattle.mt_setattr.specs.Words.{new_with}
use Rattle.mt_bind.specs.Sources.{source_at, tree_of}
use Rattle.mt_bind.specs.Opening.{opened_sources}
use Rattle.mt_bind.specs.Attaching.{whole_tree}
use Rattle.mt_unmount.specs.Detaching.{met_mounts, topmost}
use Rattle.mt_guard.specs.Coming.{numbered_from, come_locked, opened_locks, copied_locks, next_owner, where_led}

-- what a command changes of what is locked: the mounts that it meets are not locked on their places any more, new ones come with
-- locks, and maybe a namespace with an owner
pub record Locking : Type 0 where
  pub met : List ℕ
  pub came : List MountLocks
  pub owner : Option (ℕ × ℕ)

-- nothing
abbrev pub keeping : Locking
keeping = record { met = []; came = []; owner = None }

-- what will be locked of the mounts that stay and of those that come
abbrev pub next_locks : WorldView → Locking → LocksView
next_locks w x = changed_locks x.met (numbered_from w.next_mount x.came) x.owner w.locks

-- a world with what is locked of the mounts that are there
abbrev pub with_locks : LocksView → WorldView → WorldView
with_locks l v = record v { locks = kept_locks v.forest l }

module _ (w : WorldView) where
  -- mounts come to a place in a namespace, and to its targets
  abbrev pub mount_locking : ℕ → SetWords → Result Place Fault → Locking
  mount_locking n set to = record keeping { came = where_led to (come_locked w n (fresh_source 0 (new_with set))) }

  abbrev pub bind_locking : ℕ → Bool → Result Place Fault → Result Place Fault → Locking
  bind_locking n recursive from to = record keeping { came = where_led from (λ s. where_led to (come_locked w n (source_at w recursive s))) }

  abbrev pub move_locking : ℕ → Result Place Fault → Result Place Fault → Locking
  move_locking n from to = record keeping { came = where_led from (λ s. where_led to (come_locked w n (tree_of w s.mount))) }

  abbrev pub attach_locking : ℕ → ℕ → Result Place Fault → Locking
  attach_locking tree n to = record keeping { came = where_led to (come_locked w n (whole_tree w tree)) }

  -- an unmount meets mounts, so that none of them that stays is locked on its place: whoever unmounts where they came from may do so
  abbrev pub unmount_locking : Result Place Fault → Locking
  unmount_locking at = record keeping { met = where_led at (λ p. met_mounts w p.mount) }

  abbrev pub detach_locking : Result Place Fault → Locking
  detach_locking at = record keeping { met = where_led at (λ p. met_mounts w (topmost w at).mount) }

  -- a namespace comes, which is a detached tree or a copy; one that is less privileged, with locks, is its own owner
  abbrev pub open_locking : ℕ → Bool → Result Place Fault → Locking
  open_locking n recursive at = record {
    met = [];
    came = where_led at (λ p. opened_locks w p.mount (opened_sources w recursive p));
    owner = next_owner w (owner_of w.locks n);
  }

  abbrev pub copy_locking : ℕ → Bool → Locking
  copy_locking n all = record { met = []; came = copied_locks w all n; owner = next_owner w (cond all w.next_space (owner_of w.locks n)) }

  -- or one is there, all mounts of which came with a copy into another user namespace (mount_namespaces(7)): it is its own owner
  abbrev pub own_locks : ℕ → LocksView
  own_locks n = changed_locks [] (copied_locks w true n) (Some (n, n)) w.locks
