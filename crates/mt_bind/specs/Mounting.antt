-- mount, bind, rbind and move: the world after the call, or the first refusal whose condition holds. The refusals and the effect of
-- a command are said of what its paths were found to lead to: a place, or the refusal of the walk.
-- A word with no source is this project's rule.
use Rattle.std.specs.Prelude.{ℕ, Bool, false, not, ◌&&◌, List, [], ◌∷◌, length, Option, is_some, is_none, Result}
use Rattle.std.specs.List.{list_any}
use Rattle.std.specs.Option.{unwrap_or, option_map_or}
use Rattle.mt_skel.specs.declared.fault.Fault.{Fault}
use Rattle.mt_skel.specs.declared.fault.Fault.TheVariants.{NoFilesystem, RootPlace, BadAttr, TooMany, Unbindable, NotMountRoot, SharedParent, IntoItself, UnbindableInside, Detached}
use Rattle.mt_skel.specs.Outcome.{refuse_if, refusal_of, outcome}
use Rattle.mt_skel.specs.Skeleton.{fs_named}
use Rattle.mt_mounts.specs.declared.mount.Mount.{Mount}
use Rattle.mt_mounts.specs.declared.mount.Place.{Place}
use Rattle.mt_mounts.specs.Forest.{parent, is_below}
use Rattle.mt_mounts.specs.Walk.{walk}
use Rattle.mt_propagate.specs.World.{WorldView, is_tree, state_of, group_of}
use Rattle.mt_propagate.specs.Named.{place_or_nowhere, is_root_place, is_root_mount, is_mount_root}
use Rattle.mt_propagate.specs.Limits.{too_many_mounts}
use Rattle.mt_propagate.specs.Copies.{Source, new_copies, copy_id}
use Rattle.mt_propagate.specs.Copied.{copied}
use Rattle.mt_setattr.specs.declared.change.SetWords.{SetWords}
use Rattle.mt_setattr.specs.Words.{nothing_set, sets_two_times, new_with}
use Rattle.mt_bind.specs.Sources.{fresh_with, source_at, tree_of}

module _ (w : WorldView) where
  -- the copies are too many
  abbrev pub too_many : Source → Place → Option Fault
  too_many src p = refuse_if (too_many_mounts w (length (new_copies w src p))) TooMany

  -- the world once a source tree is at a place, and the ID of its top there
  abbrev pub copied_with_id : Source → Place → WorldView × ℕ
  copied_with_id src p = (copied w src p, copy_id w src p p.mount src.top.id)

  -- the mount on which a mount stands is in a peer group
  abbrev pub stands_on_shared : ℕ → Bool
  stands_on_shared i = option_map_or (λ k. is_some (group_of w k)) (parent w.forest i) false

  -- a mount, or one below it, is unbindable
  abbrev pub any_unbindable : ℕ → Bool
  any_unbindable i = list_any (λ (m : Mount). (state_of w m.id).unbindable) (tree_of w i).mounts

  -- the refusals of a mount with attributes, of the filesystem that was found (two access times at once: mount_setattr(2); where
  -- this comes: this project's rule)
  abbrev pub mounted_refusals : SetWords → Option ℕ → Result Place Fault → List (Option Fault)
  mounted_refusals set fs to =
      let p = place_or_nowhere to in
      refuse_if (is_none fs) NoFilesystem
      ∷ refusal_of to
      ∷ refuse_if (is_root_place w p) RootPlace
      ∷ refuse_if (sets_two_times set) BadAttr
      ∷ too_many (fresh_with w (unwrap_or fs 0) (new_with set)) p ∷ []

  abbrev pub mounted_effect : SetWords → Option ℕ → Result Place Fault → WorldView × ℕ
  mounted_effect set fs to = copied_with_id (fresh_with w (unwrap_or fs 0) (new_with set)) (place_or_nowhere to)

  -- a new mount of a filesystem where a path ends, with attributes, and its ID (`sharedsubtree`, mount semantics; mount(2); that a
  -- root place is no destination is this project's rule)
  abbrev pub mounted_with : ℕ → List ℕ → List (List ℕ) → SetWords → Result (WorldView × ℕ) Fault
  mounted_with n name path set =
      let fs = fs_named w.skel name in
      let place = walk w.skel w.forest n path in
      outcome (mounted_refusals set fs place) (mounted_effect set fs place)

  -- the same where nothing is said of its attributes
  abbrev pub mounted : ℕ → List ℕ → List (List ℕ) → Result (WorldView × ℕ) Fault
  mounted n name path = mounted_with n name path nothing_set

  -- the refusals of a bind
  abbrev pub bound_refusals : Bool → Result Place Fault → Result Place Fault → List (Option Fault)
  bound_refusals recursive from to =
      let s = place_or_nowhere from in
      let p = place_or_nowhere to in
      refusal_of from
      ∷ refusal_of to
      ∷ refuse_if (is_root_place w p) RootPlace
      ∷ refuse_if (state_of w s.mount).unbindable Unbindable
      ∷ too_many (source_at w recursive s) p ∷ []

  abbrev pub bound_effect : Bool → Result Place Fault → Result Place Fault → WorldView × ℕ
  bound_effect recursive from to = copied_with_id (source_at w recursive (place_or_nowhere from)) (place_or_nowhere to)

  -- a copy of a mount, or with `recursive` of the tree below a directory, where a path ends, and its ID (`sharedsubtree`, bind and
  -- rbind semantics)
  abbrev pub bound : ℕ → Bool → List (List ℕ) → List (List ℕ) → Result (WorldView × ℕ) Fault
  bound n recursive from to =
      let source = walk w.skel w.forest n from in
      let place = walk w.skel w.forest n to in
      outcome (bound_refusals recursive source place) (bound_effect recursive source place)

  -- the refusals of a move: not from a shared parent, not into itself, and not with an unbindable mount below a shared one
  -- (`sharedsubtree`, move semantics)
  abbrev pub moved_refusals : Result Place Fault → Result Place Fault → List (Option Fault)
  moved_refusals from to =
      let s = place_or_nowhere from in
      let p = place_or_nowhere to in
      refusal_of from
      ∷ refuse_if (not (is_mount_root w s)) NotMountRoot
      ∷ refuse_if (is_root_mount w s) RootPlace
      ∷ refusal_of to
      ∷ refuse_if (is_root_place w p) RootPlace
      ∷ refuse_if (stands_on_shared s.mount) SharedParent
      ∷ refuse_if (is_below w.forest s.mount p.mount) IntoItself
      ∷ refuse_if (is_some (group_of w p.mount) && any_unbindable s.mount) UnbindableInside
      ∷ too_many (tree_of w s.mount) p ∷ []

  abbrev pub moved_effect : Result Place Fault → Result Place Fault → WorldView
  moved_effect from to = copied w (tree_of w (place_or_nowhere from).mount) (place_or_nowhere to)

  -- a mount and all below it go to another place (`sharedsubtree`, move semantics), but not in a detached tree (mount(2), EINVAL). A
  -- detached tree is a namespace that is there
  abbrev pub moved : ℕ → List (List ℕ) → List (List ℕ) → Result WorldView Fault
  moved n from to =
      let source = walk w.skel w.forest n from in
      let place = walk w.skel w.forest n to in
      outcome (refuse_if (is_tree w n) Detached ∷ moved_refusals source place) (moved_effect source place)
