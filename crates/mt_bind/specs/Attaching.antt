-- Detached trees come to stand at a place.
-- A word with no source is this project's rule.
use Rattle.std.specs.Prelude.{ℕ, Bool, true, not, ◌&&◌, ◌==◌, List, [], ◌∷◌, Option, is_some, Result}
use Rattle.std.specs.List.{list_any}
use Rattle.std.specs.Option.{unwrap_or}
use Rattle.mt_skel.specs.declared.fault.Fault.{Fault}
use Rattle.mt_skel.specs.declared.fault.Fault.TheVariants.{NoNamespace, NotDetached, RootPlace, IntoItself, UnbindableInside}
use Rattle.mt_skel.specs.Outcome.{refuse_if, refusal_of, outcome}
use Rattle.mt_mounts.specs.declared.mount.Mount.{Mount}
use Rattle.mt_mounts.specs.declared.mount.Place.{Place}
use Rattle.mt_mounts.specs.Forest.{mounts_in, root_mount}
use Rattle.mt_mounts.specs.Walk.{walk}
use Rattle.mt_propagate.specs.World.{WorldView, is_space, is_tree, state_of, group_of}
use Rattle.mt_propagate.specs.Named.{unknown, place_or_nowhere, is_root_place}
use Rattle.mt_propagate.specs.Copies.{Source}
use Rattle.mt_propagate.specs.Copied.{copied}
use Rattle.mt_propagate.specs.Contained.{is_linked}
use Rattle.mt_bind.specs.Mounting.{too_many}

module _ (w : WorldView) (tree : ℕ) where
  -- all mounts of the tree move, with its root mount as their top (move_mount(2), MOVE_MOUNT_F_EMPTY_PATH)
  abbrev pub whole_tree : Source
  whole_tree = record { mounts = mounts_in w.forest tree; top = unwrap_or (root_mount w.forest tree) unknown; moved = true }

  -- one of them is unbindable
  abbrev pub has_unbindable : Bool
  has_unbindable = list_any (λ (m : Mount). (state_of w m.id).unbindable) (mounts_in w.forest tree)

  -- one of them has a group or a master
  abbrev pub has_linked : Bool
  has_linked = list_any (λ (m : Mount). is_linked w m.id) (mounts_in w.forest tree)

  -- the mounts of the tree stand at the place and are of its namespace, and copies of them at the targets; the tree is no namespace any
  -- more (move_mount(2); `sharedsubtree`, move semantics)
  abbrev pub with_attached : Place → WorldView
  with_attached p = copied w whole_tree p

  -- the refusals, where the path was found to lead there: the tree is one, and comes neither into itself nor with an unbindable mount
  -- below a shared one (move_mount(2), EINVAL; `sharedsubtree`, move semantics; their order, and that a root place is no destination:
  -- this project's rule)
  abbrev pub attached_refusals : ℕ → Result Place Fault → List (Option Fault)
  attached_refusals n to =
      let p = place_or_nowhere to in
      refuse_if (not (is_space w tree)) NoNamespace
      ∷ refuse_if (not (is_tree w tree)) NotDetached
      ∷ refusal_of to
      ∷ refuse_if (is_root_place w p) RootPlace
      ∷ refuse_if (n == tree) IntoItself
      ∷ refuse_if (is_some (group_of w p.mount) && has_unbindable) UnbindableInside
      ∷ too_many w whole_tree p ∷ []

  -- a detached tree comes to stand where a path ends (move_mount(2))
  abbrev pub attached : ℕ → List (List ℕ) → Result WorldView Fault
  attached n path =
      let to = walk w.skel w.forest n path in
      outcome (attached_refusals n to) (with_attached (place_or_nowhere to))
