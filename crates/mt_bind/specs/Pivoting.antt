-- pivot: the world after the call, or the first refusal whose condition holds.
-- A word with no source is this project's rule.
use Rattle.std.specs.Prelude.{◌≡◌, ◌≢◌, ℕ, cond, not, ◌||◌, ◌==◌, List, [], ◌∷◌, map, Option, Some, None, is_some, Result, IsTrue}
use Rattle.std.specs.Option.{option_map, unwrap_or}
use Rattle.mt_skel.specs.declared.fault.Fault.{Fault}
use Rattle.mt_skel.specs.declared.fault.Fault.TheVariants.{RootPlace, NotMountRoot, SharedParent, IntoItself, Detached}
use Rattle.mt_skel.specs.Outcome.{refuse_if, refusal_of, outcome}
use Rattle.mt_mounts.specs.declared.mount.Mount.{Mount}
use Rattle.mt_mounts.specs.declared.mount.Place.{Place}
use Rattle.mt_mounts.specs.Forest.{id_of, mount_at, is_below, root_mount}
use Rattle.mt_mounts.specs.Walk.{walk}
use Rattle.mt_propagate.specs.World.{WorldView, is_tree, group_of}
use Rattle.mt_propagate.specs.Named.{place_or_nowhere, is_root_place, is_root_mount, is_mount_root}
use Rattle.mt_propagate.specs.Sound.{IsDestination}
use Rattle.mt_bind.specs.Mounting.{stands_on_shared}

-- a mount, once the new root mount has no place and the old one has this place (pivot_root(2))
abbrev pub pivoted_mount : ℕ → ℕ → Place → Mount → Mount
pivoted_mount new old p m = record m { place = cond (m.id == new) None (cond (m.id == old) (Some p) m.place) }

-- nothing else changes, and nothing propagates: what stands on either of them stays on it (pivot_root(2))
unfoldable pub with_pivot : WorldView → ℕ → ℕ → Place → WorldView
with_pivot w new old p = record w { forest = map (pivoted_mount new old p) w.forest }

module _ (w : WorldView) where
  -- the root mount of the namespace n
  abbrev pub root_id : ℕ → ℕ
  root_id n = unwrap_or (option_map id_of (root_mount w.forest n)) 0

  -- the refusals of a pivot, where its paths lead to these: not from a shared parent, nor onto a shared mount, and onto the new
  -- root mount or one below it, since all other mounts go along with the old one (pivot_root(2); their order: this project's rule)
  abbrev pub pivoted_refusals : Result Place Fault → Result Place Fault → List (Option Fault)
  pivoted_refusals new old =
      let s = place_or_nowhere new in
      let p = place_or_nowhere old in
      refusal_of new
      ∷ refuse_if (not (is_mount_root w s)) NotMountRoot
      ∷ refuse_if (is_root_mount w s) RootPlace
      ∷ refusal_of old
      ∷ refuse_if (is_root_place w p) RootPlace
      ∷ refuse_if (stands_on_shared w s.mount || is_some (group_of w p.mount)) SharedParent
      ∷ refuse_if (not (is_below w.forest s.mount p.mount)) IntoItself ∷ []

  abbrev pub pivoted_effect : ℕ → Result Place Fault → Result Place Fault → WorldView
  pivoted_effect n new old = with_pivot w (place_or_nowhere new).mount (root_id n) (place_or_nowhere old)

  -- afterwards the mount that one path names is the root mount, and the old one stands where the other path ends (pivot_root(2)); not in
  -- a detached tree (pivot_root(2), EINVAL), which is a namespace that is there
  abbrev pub pivoted : ℕ → List (List ℕ) → List (List ℕ) → Result WorldView Fault
  pivoted n new old =
      let root = walk w.skel w.forest n new in
      let place = walk w.skel w.forest n old in
      outcome (refuse_if (is_tree w n) Detached ∷ pivoted_refusals root place) (pivoted_effect n root place)

-- a mount may become the root mount of its namespace, and the old one may then go to a place (pivot_root(2))
pub record MayPivot (w : WorldView) (new old : ℕ) (p : Place) : Type 0 where
  -- the new one is there, and stands on another mount
  pub top : Mount
  pub top_there : mount_at w.forest new ≡ Some top
  pub placed : top.place ≢ None
  -- the old one is the root mount of its namespace
  pub root : Mount
  pub root_there : mount_at w.forest old ≡ Some root
  pub unplaced : root.place ≡ None
  pub same_space : root.space ≡ top.space
  -- a tree may come to stand at the place
  pub destination : IsDestination w p
  -- which is on the new one or below it
  pub inside : IsTrue (is_below w.forest new p.mount)
