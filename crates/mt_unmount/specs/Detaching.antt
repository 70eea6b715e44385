-- detach, umount2(2) with MNT_DETACH: the world after the call, or the first refusal whose condition holds.
-- A word with no source is this project's rule.
use Rattle.std.specs.Prelude.{ℕ, Bool, false, not, ◌&&◌, ◌||◌, ◌++◌, List, [], ◌∷◌, Option, Result}
use Rattle.std.specs.List.{filter_map, flat_map, list_all}
use Rattle.std.specs.Option.{option_map, option_map_or}
use Rattle.mt_skel.specs.declared.fault.Fault.{Fault}
use Rattle.mt_skel.specs.declared.fault.Fault.TheVariants.{NotMountRoot, RootPlace, Detached}
use Rattle.mt_skel.specs.Keyed.{among}
use Rattle.mt_skel.specs.Outcome.{refuse_if, refusal_of, outcome}
use Rattle.mt_mounts.specs.declared.mount.Place.{Place}
use Rattle.mt_mounts.specs.Forest.{id_of, on, parents_up, subtree, top}
use Rattle.mt_mounts.specs.Walk.{walk}
use Rattle.mt_locks.specs.Locks.{is_locked}
use Rattle.mt_propagate.specs.World.{WorldView, is_tree}
use Rattle.mt_propagate.specs.Named.{place_or_nowhere, is_mount_root, is_root_mount}
use Rattle.mt_propagate.specs.Receivers.{hits}
use Rattle.mt_unmount.specs.Sliding.{place_of, inside, once_gone}

-- the mounts that stand at a directory of these mounts
abbrev pub standing_at : WorldView → List ℕ → ℕ → List ℕ
standing_at w ts d = filter_map (λ t. option_map id_of (on w.forest (record { mount = t; dir = d }))) ts

-- a mount receives, from each mount to which its parent propagates, the one at the same directory (`sharedsubtree`, unmount
-- semantics)
abbrev pub received : WorldView → ℕ → List ℕ
received w i = option_map_or (λ (p : Place). standing_at w (hits w p) p.dir) (place_of w i) []

-- candidates are the mounts of the tree, and what each of these receives (`propagate_umount`)
abbrev pub candidates : WorldView → ℕ → List ℕ
candidates w i = subtree w.forest i ++ flat_map (received w) (subtree w.forest i)

-- a mount may go with one that is detached
abbrev pub is_candidate : WorldView → ℕ → ℕ → Bool
is_candidate w i j = among (candidates w i) j

-- each candidate may go if everything inside it is a candidate (`propagate_umount`)
abbrev pub is_detached : WorldView → ℕ → ℕ → Bool
is_detached w i j = is_candidate w i j && list_all (is_candidate w i) (inside w j)

-- an unmount meets the mount that it names, and what that one receives
abbrev pub met_mounts : WorldView → ℕ → List ℕ
met_mounts w i = i ∷ received w i

-- a mount goes for itself if it was met, or is not locked on its place (mount_namespaces(7), restrictions on mount namespaces)
abbrev pub is_free : WorldView → ℕ → ℕ → Bool
is_free w i j = among (met_mounts w i) j || not (is_locked w.locks j)

-- a mount that may go goes if it goes for itself, or if the mount on which it stands goes: so it is told by the mounts from it up
abbrev pub goes_up : (ℕ → Bool) → (ℕ → Bool) → List ℕ → Bool
goes_up may free [] = false
goes_up may free (j ∷ up) = may j && (free j || goes_up may free up)

-- so each candidate goes (`propagate_umount`: the mounts that go are not revealing)
abbrev pub is_taken : WorldView → ℕ → ℕ → Bool
is_taken w i j = goes_up (is_detached w i) (is_free w i) (parents_up w.forest j)

-- the world once a mount is detached, with all mounts below it, there and wherever that propagates (umount2(2), MNT_DETACH; the
-- masters after it: this project's rule)
unfoldable pub without_tree : WorldView → ℕ → WorldView
without_tree w i = once_gone w (is_taken w i)

-- detach names the topmost mount at the end of a path, so with `/` the one on top of what stands on the root place (umount2(2):
-- the topmost mount)
abbrev pub topmost : WorldView → Result Place Fault → Place
topmost w at = top w.forest (place_or_nowhere at)

abbrev pub named_place : WorldView → ℕ → List (List ℕ) → Place
named_place w n path = topmost w (walk w.skel w.forest n path)

-- the refusals of a detach, where its path was found to lead there (umount2(2), EINVAL; that a root mount stays is this project's
-- rule)
abbrev pub detached_refusals : WorldView → Result Place Fault → List (Option Fault)
detached_refusals w at =
    let p = topmost w at in
    refusal_of at
    ∷ refuse_if (not (is_mount_root w p)) NotMountRoot
    ∷ refuse_if (is_root_mount w p) RootPlace ∷ []

-- what it makes of the world
abbrev pub detached_effect : WorldView → Result Place Fault → WorldView
detached_effect w at = without_tree w (topmost w at).mount

-- the mount that a path names is detached (umount2(2), MNT_DETACH), but not in a detached tree (umount2(2), EINVAL). A detached tree is
-- a namespace that is there
abbrev pub detached : WorldView → ℕ → List (List ℕ) → Result WorldView Fault
detached w n path =
    let at = walk w.skel w.forest n path in
    outcome (refuse_if (is_tree w n) Detached ∷ detached_refusals w at) (detached_effect w at)
