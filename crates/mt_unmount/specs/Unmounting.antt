-- umount: the world after the call, or the first refusal whose condition holds.
-- A word with no source is this project's rule.
use Rattle.std.specs.Prelude.{ℕ, Bool, false, not, ◌==◌, List, [], ◌∷◌, map, Option, Result}
use Rattle.std.specs.List.{filter, filter_map, list_any, list_all}
use Rattle.std.specs.Option.{option_map_or}
use Rattle.mt_skel.specs.declared.fault.Fault.{Fault}
use Rattle.mt_skel.specs.declared.fault.Fault.TheVariants.{NotMountRoot, RootPlace, Busy, Detached}
use Rattle.mt_skel.specs.Outcome.{refuse_if, refusal_of, outcome}
use Rattle.mt_mounts.specs.declared.mount.Mount.{Mount}
use Rattle.mt_mounts.specs.declared.mount.Place.{Place}
use Rattle.mt_mounts.specs.Forest.{on, id_of, stands_on}
use Rattle.mt_mounts.specs.Walk.{walk}
use Rattle.mt_propagate.specs.World.{WorldView, is_tree}
use Rattle.mt_propagate.specs.Named.{place_or_nowhere, is_mount_root, is_root_mount}
use Rattle.mt_propagate.specs.Receivers.{hits}
use Rattle.mt_unmount.specs.Sliding.{place_of, once_gone}

-- a propagated unmount spares a mount with children (`sharedsubtree`, unmount semantics), except for one that stands at its own
-- root directory
abbrev pub may_go : WorldView → Mount → Bool
may_go w m = list_all (λ c. option_map_or (λ p. p.dir == m.root) c.place false) (filter (stands_on m.id) w.forest)

-- on each of these mounts the mount at a directory goes, if it may (`sharedsubtree`, unmount semantics)
abbrev pub going_at : WorldView → List ℕ → ℕ → List ℕ
going_at w ts d = map id_of (filter (may_go w) (filter_map (λ t. on w.forest (record { mount = t; dir = d })) ts))

-- the named mount goes, and from each mount to which its parent propagates the mount at the same directory, if it may
-- (`sharedsubtree`, unmount semantics)
abbrev pub removed : WorldView → ℕ → List ℕ
removed w i = i ∷ option_map_or (λ p. going_at w (hits w p) p.dir) (place_of w i) []

-- a mount goes (`sharedsubtree`, unmount semantics)
abbrev pub is_removed : WorldView → ℕ → ℕ → Bool
is_removed w i j = list_any (λ k. k == j) (removed w i)

-- the world once a mount is unmounted, there and wherever that propagates (`sharedsubtree`, unmount semantics; the masters after
-- it: this project's rule)
unfoldable pub without_mount : WorldView → ℕ → WorldView
without_mount w i = once_gone w (is_removed w i)

-- the refusals of an unmount, where its path was found to lead there (umount(2), EBUSY and EINVAL; that a root mount stays is this
-- project's rule)
abbrev pub unmounted_refusals : WorldView → Result Place Fault → List (Option Fault)
unmounted_refusals w at =
    let p = place_or_nowhere at in
    refusal_of at
    ∷ refuse_if (not (is_mount_root w p)) NotMountRoot
    ∷ refuse_if (is_root_mount w p) RootPlace
    ∷ refuse_if (list_any (stands_on p.mount) w.forest) Busy ∷ []

-- what it makes of the world
abbrev pub unmounted_effect : WorldView → Result Place Fault → WorldView
unmounted_effect w at = without_mount w (place_or_nowhere at).mount

-- the mount that a path names is unmounted (`sharedsubtree`, unmount semantics), but not in a detached tree (umount(2), EINVAL). A
-- detached tree is a namespace that is there
abbrev pub unmounted : WorldView → ℕ → List (List ℕ) → Result WorldView Fault
unmounted w n path =
    let at = walk w.skel w.forest n path in
    outcome (refuse_if (is_tree w n) Detached ∷ unmounted_refusals w at) (unmounted_effect w at)
