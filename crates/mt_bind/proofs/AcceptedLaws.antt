-- What is known of a command that was accepted: its effect, and that no refusal holds; and what a mount, a bind and a move lead to
-- once their places are judged: it is left to see whether the copies are too many.
use Rattle.std.proofs.Common.{◌≡◌, ℕ, Bool, true, false, ◌&&◌, ◌||◌, ◌==◌, List, length, Option, Some, None, Result, Ok, Err, ap, not, [], ◌∷◌, sym, ◌∙◌, arith}
use Rattle.std.specs.Prelude.{is_none, is_some, unwrap_or, IsTrue}
use Rattle.std.proofs.lemmas.Bool.{not-false}
use Rattle.mt_skel.specs.declared.fault.Fault.{Fault}
use Rattle.mt_skel.specs.Outcome.{refusal_of, refuse_if, outcome}
use Rattle.mt_skel.proofs.OutcomeLaws.{not_refused, accepted, passed, stopped}
use Rattle.mt_skel.specs.Skeleton.{fs_named}
use Rattle.mt_skel.specs.declared.fault.Fault.TheVariants.{NotMountRoot, RootPlace, BadAttr, SharedParent, IntoItself, Unbindable, UnbindableInside, TooMany, Detached}
use Rattle.mt_mounts.specs.declared.mount.Place.{Place}
use Rattle.mt_mounts.specs.Forest.{is_below}
use Rattle.mt_mounts.specs.Walk.{walk}
use Rattle.mt_propagate.specs.World.{WorldView, is_space, is_tree, with_tree, state_of, group_of}
use Rattle.mt_propagate.specs.Named.{place_or_nowhere, is_root_place, is_root_mount, is_mount_root}
use Rattle.mt_propagate.specs.Limits.{too_many_mounts, too_many_spaces}
use Rattle.mt_propagate.specs.Copies.{Source, new_copies, copy_id}
use Rattle.mt_propagate.specs.Copied.{copied}
use Rattle.mt_bind.specs.Spaces.{originals, with_space, new_space_refusals, new_space, with_copy, copy_space_refusals, copy_space, without_space, drop_space_refusals, drop_space}
use Rattle.mt_setattr.specs.declared.change.SetWords.{SetWords}
use Rattle.mt_setattr.specs.Words.{nothing_set, sets_two_times, new_with}
use Rattle.mt_bind.specs.Sources.{fresh_with, source_at, tree_of}
use Rattle.mt_bind.specs.Mounting.{stands_on_shared, any_unbindable, mounted_refusals, mounted_with, mounted, bound_refusals, bound, moved_refusals, moved, too_many, copied_with_id, mounted_effect, bound_effect, moved_effect}
use Rattle.mt_bind.specs.Opening.{opened_sources, with_opened, opened_refusals, tree_opened, tree_made}
use Rattle.mt_bind.specs.Attaching.{whole_tree, has_unbindable, with_attached, attached_refusals, attached}
use Rattle.mt_bind.specs.Pivoting.{root_id, with_pivot, pivoted_refusals, pivoted}

-- the place where a path ends
abbrev pub path_end : WorldView → ℕ → List (List ℕ) → Place
path_end w n path = place_or_nowhere (walk w.skel w.forest n path)

has_ended : (r : Result Place Fault) → refusal_of r ≡ None → r ≡ Ok (place_or_nowhere r)
has_ended r e = grind arith

has_name : (o : Option ℕ) → is_none o ≡ false → o ≡ Some (unwrap_or o 0)
has_name o e = grind arith

-- the number of the filesystem with a name
abbrev pub fs_of : WorldView → List ℕ → ℕ
fs_of w name = unwrap_or (fs_named w.skel name) 0

-- the copies of a source tree at a place are not too many
abbrev pub AreFew : WorldView → Source → Place → Type 0
AreFew w src p = too_many_mounts w (length (new_copies w src p)) ≡ false

-- a new namespace
pub record IsAcceptedSpace (w : WorldView) (name : List ℕ) (v : WorldView) (i : ℕ) : Type 0 where
  pub named : fs_named w.skel name ≡ Some (fs_of w name)
  pub few_spaces : too_many_spaces w ≡ false
  pub few : too_many_mounts w 1 ≡ false
  pub world : with_space w (fs_of w name) ≡ v
  pub number : w.next_space ≡ i

pub new_space_accepted : (w : WorldView) (name : List ℕ) (v : WorldView) (i : ℕ) → new_space w name ≡ Ok (v, i) → IsAcceptedSpace w name v i
new_space_accepted w name v i e =
    let a = accepted (new_space_refusals w (fs_named w.skel name)) _ _ e in
    record {
      named = has_name _ (not_refused _ _ a.1.0);
      few_spaces = not_refused _ _ a.1.1.0;
      few = not_refused _ _ a.1.1.1.0;
      world = ap (λ x. x.0) a.0;
      number = ap (λ x. x.1) a.0;
    }

-- a copy of a namespace
pub record IsAcceptedCopy (w : WorldView) (n : ℕ) (less : Bool) (v : WorldView) (i : ℕ) : Type 0 where
  pub there : is_space w n ≡ true
  pub attached : is_tree w n ≡ false
  pub few_spaces : too_many_spaces w ≡ false
  pub few : too_many_mounts w (length (originals w n)) ≡ false
  pub world : with_copy w n less ≡ v
  pub number : w.next_space ≡ i

pub copy_space_accepted : (w : WorldView) (n : ℕ) (less : Bool) (v : WorldView) (i : ℕ) → copy_space w n less ≡ Ok (v, i) → IsAcceptedCopy w n less v i
copy_space_accepted w n less v i e =
    let a = accepted (copy_space_refusals w n) _ _ e in
    record {
      there = not-false _ (not_refused _ _ a.1.0);
      attached = not_refused _ _ a.1.1.0;
      few_spaces = not_refused _ _ a.1.1.1.0;
      few = not_refused _ _ a.1.1.1.1.0;
      world = ap (λ x. x.0) a.0;
      number = ap (λ x. x.1) a.0;
    }

-- a detached tree of a filesystem
pub record IsAcceptedTree (w : WorldView) (name : List ℕ) (v : WorldView) (i : ℕ) : Type 0 where
  pub named : fs_named w.skel name ≡ Some (fs_of w name)
  pub few_spaces : too_many_spaces w ≡ false
  pub few : too_many_mounts w 1 ≡ false
  pub world : with_tree (with_space w (fs_of w name)) w.next_space ≡ v
  pub number : w.next_space ≡ i

pub tree_made_accepted : (w : WorldView) (name : List ℕ) (v : WorldView) (i : ℕ) → tree_made w name ≡ Ok (v, i) → IsAcceptedTree w name v i
tree_made_accepted w name v i e =
    let a = accepted (new_space_refusals w (fs_named w.skel name)) _ _ e in
    record {
      named = has_name _ (not_refused _ _ a.1.0);
      few_spaces = not_refused _ _ a.1.1.0;
      few = not_refused _ _ a.1.1.1.0;
      world = ap (λ x. x.0) a.0;
      number = ap (λ x. x.1) a.0;
    }

-- an opening
pub record IsAcceptedOpening (w : WorldView) (n : ℕ) (path : List (List ℕ)) (recursive : Bool) (v : WorldView) (i : ℕ) : Type 0 where
  pub ended : walk w.skel w.forest n path ≡ Ok (path_end w n path)
  pub bindable : (state_of w (path_end w n path).mount).unbindable ≡ false
  pub few_spaces : too_many_spaces w ≡ false
  pub few : too_many_mounts w (length (opened_sources w recursive (path_end w n path))) ≡ false
  pub world : with_opened w (opened_sources w recursive (path_end w n path)) ≡ v
  pub number : w.next_space ≡ i

pub opened_accepted : (w : WorldView) (n : ℕ) (path : List (List ℕ)) (recursive : Bool) (v : WorldView) (i : ℕ) → tree_opened w n path recursive ≡ Ok (v, i) → IsAcceptedOpening w n path recursive v i
opened_accepted w n path recursive v i e =
    let a = accepted (opened_refusals w recursive (walk w.skel w.forest n path)) _ _ e in
    record {
      ended = has_ended _ a.1.0;
      bindable = not_refused _ _ a.1.1.0;
      few_spaces = not_refused _ _ a.1.1.1.0;
      few = not_refused _ _ a.1.1.1.1.0;
      world = ap (λ x. x.0) a.0;
      number = ap (λ x. x.1) a.0;
    }

-- an attaching
pub record IsAcceptedAttaching (w : WorldView) (tree n : ℕ) (path : List (List ℕ)) (v : WorldView) : Type 0 where
  pub there : is_space w tree ≡ true
  pub detached : is_tree w tree ≡ true
  pub ended : walk w.skel w.forest n path ≡ Ok (path_end w n path)
  pub off_root : is_root_place w (path_end w n path) ≡ false
  pub apart : (n == tree) ≡ false
  pub bindable : (is_some (group_of w (path_end w n path).mount) && has_unbindable w tree) ≡ false
  pub few : AreFew w (whole_tree w tree) (path_end w n path)
  pub world : with_attached w tree (path_end w n path) ≡ v

pub attached_accepted : (w : WorldView) (tree n : ℕ) (path : List (List ℕ)) (v : WorldView) → attached w tree n path ≡ Ok v → IsAcceptedAttaching w tree n path v
attached_accepted w tree n path v e =
    let a = accepted (attached_refusals w tree n (walk w.skel w.forest n path)) _ _ e in
    let late = a.1.1.1.1 in
    record {
      there = not-false _ (not_refused _ _ a.1.0);
      detached = not-false _ (not_refused _ _ a.1.1.0);
      ended = has_ended _ a.1.1.1.0;
      off_root = not_refused _ _ late.0;
      apart = not_refused _ _ late.1.0;
      bindable = not_refused _ _ late.1.1.0;
      few = not_refused _ _ late.1.1.1.0;
      world = a.0;
    }

-- the end of a namespace
pub record IsAcceptedDrop (w : WorldView) (n : ℕ) (v : WorldView) : Type 0 where
  pub there : is_space w n ≡ true
  pub world : without_space w n ≡ v

pub drop_space_accepted : (w : WorldView) (n : ℕ) (v : WorldView) → drop_space w n ≡ Ok v → IsAcceptedDrop w n v
drop_space_accepted w n v e =
    let a = accepted (drop_space_refusals w n) _ _ e in
    record { there = not-false _ (not_refused _ _ a.1.0); world = a.0 }

-- a mount
pub record IsAcceptedMount (w : WorldView) (n : ℕ) (name : List ℕ) (path : List (List ℕ)) (set : SetWords) (v : WorldView) (i : ℕ) : Type 0 where
  pub named : fs_named w.skel name ≡ Some (fs_of w name)
  pub ended : walk w.skel w.forest n path ≡ Ok (path_end w n path)
  pub off_root : is_root_place w (path_end w n path) ≡ false
  pub one_time : sets_two_times set ≡ false
  pub few : AreFew w (fresh_with w (fs_of w name) (new_with set)) (path_end w n path)
  pub world : copied w (fresh_with w (fs_of w name) (new_with set)) (path_end w n path) ≡ v
  pub id : copy_id w (fresh_with w (fs_of w name) (new_with set)) (path_end w n path) (path_end w n path).mount 0 ≡ i

pub mount_with_accepted : (w : WorldView) (n : ℕ) (name : List ℕ) (path : List (List ℕ)) (set : SetWords) (v : WorldView) (i : ℕ) → mounted_with w n name path set ≡ Ok (v, i) → IsAcceptedMount w n name path set v i
mount_with_accepted w n name path set v i e =
    let a = accepted (mounted_refusals w set (fs_named w.skel name) (walk w.skel w.forest n path)) _ _ e in
    record {
      named = has_name _ (not_refused _ _ a.1.0);
      ended = has_ended _ a.1.1.0;
      off_root = not_refused _ _ a.1.1.1.0;
      one_time = not_refused _ _ a.1.1.1.1.0;
      few = not_refused _ _ a.1.1.1.1.1.0;
      world = ap (λ x. x.0) a.0;
      id = ap (λ x. x.1) a.0;
    }

-- one of which nothing is said
pub mount_accepted : (w : WorldView) (n : ℕ) (name : List ℕ) (path : List (List ℕ)) (v : WorldView) (i : ℕ) → mounted w n name path ≡ Ok (v, i) → IsAcceptedMount w n name path nothing_set v i
mount_accepted w n name path v i e = mount_with_accepted w n name path nothing_set v i e

-- a bind
pub record IsAcceptedBind (w : WorldView) (n : ℕ) (recursive : Bool) (from to : List (List ℕ)) (v : WorldView) (i : ℕ) : Type 0 where
  pub begun : walk w.skel w.forest n from ≡ Ok (path_end w n from)
  pub ended : walk w.skel w.forest n to ≡ Ok (path_end w n to)
  pub off_root : is_root_place w (path_end w n to) ≡ false
  pub bindable : (state_of w (path_end w n from).mount).unbindable ≡ false
  pub few : AreFew w (source_at w recursive (path_end w n from)) (path_end w n to)
  pub world : copied w (source_at w recursive (path_end w n from)) (path_end w n to) ≡ v
  pub id : copy_id w (source_at w recursive (path_end w n from)) (path_end w n to) (path_end w n to).mount (source_at w recursive (path_end w n from)).top.id ≡ i

pub bind_accepted : (w : WorldView) (n : ℕ) (recursive : Bool) (from to : List (List ℕ)) (v : WorldView) (i : ℕ) → bound w n recursive from to ≡ Ok (v, i) → IsAcceptedBind w n recursive from to v i
bind_accepted w n recursive from to v i e =
    let a = accepted (bound_refusals w recursive (walk w.skel w.forest n from) (walk w.skel w.forest n to)) _ _ e in
    record {
      begun = has_ended _ a.1.0;
      ended = has_ended _ a.1.1.0;
      off_root = not_refused _ _ a.1.1.1.0;
      bindable = not_refused _ _ a.1.1.1.1.0;
      few = not_refused _ _ a.1.1.1.1.1.0;
      world = ap (λ x. x.0) a.0;
      id = ap (λ x. x.1) a.0;
    }

-- a move
pub record IsAcceptedMove (w : WorldView) (n : ℕ) (from to : List (List ℕ)) (v : WorldView) : Type 0 where
  pub attached : is_tree w n ≡ false
  pub begun : walk w.skel w.forest n from ≡ Ok (path_end w n from)
  pub named : is_mount_root w (path_end w n from) ≡ true
  pub placed : is_root_mount w (path_end w n from) ≡ false
  pub ended : walk w.skel w.forest n to ≡ Ok (path_end w n to)
  pub off_root : is_root_place w (path_end w n to) ≡ false
  pub unshared : stands_on_shared w (path_end w n from).mount ≡ false
  pub outside : is_below w.forest (path_end w n from).mount (path_end w n to).mount ≡ false
  pub bindable : (is_some (group_of w (path_end w n to).mount) && any_unbindable w (path_end w n from).mount) ≡ false
  pub few : AreFew w (tree_of w (path_end w n from).mount) (path_end w n to)
  pub world : copied w (tree_of w (path_end w n from).mount) (path_end w n to) ≡ v

pub move_accepted : (w : WorldView) (n : ℕ) (from to : List (List ℕ)) (v : WorldView) → moved w n from to ≡ Ok v → IsAcceptedMove w n from to v
move_accepted w n from to v e =
    let a = accepted (refuse_if (is_tree w n) Detached ∷ moved_refusals w (walk w.skel w.forest n from) (walk w.skel w.forest n to)) _ _ e in
    let early = a.1.1 in
    let late = early.1.1.1 in
    record {
      attached = not_refused _ _ a.1.0;
      begun = has_ended _ early.0;
      named = not-false _ (not_refused _ _ early.1.0);
      placed = not_refused _ _ early.1.1.0;
      ended = has_ended _ late.0;
      off_root = not_refused _ _ late.1.0;
      unshared = not_refused _ _ late.1.1.0;
      outside = not_refused _ _ late.1.1.1.0;
      bindable = not_refused _ _ late.1.1.1.1.0;
      few = not_refused _ _ late.1.1.1.1.1.0;
      world = a.0;
    }

-- a pivot
pub record IsAcceptedPivot (w : WorldView) (n : ℕ) (new old : List (List ℕ)) (v : WorldView) : Type 0 where
  pub attached : is_tree w n ≡ false
  pub begun : walk w.skel w.forest n new ≡ Ok (path_end w n new)
  pub named : is_mount_root w (path_end w n new) ≡ true
  pub placed : is_root_mount w (path_end w n new) ≡ false
  pub ended : walk w.skel w.forest n old ≡ Ok (path_end w n old)
  pub off_root : is_root_place w (path_end w n old) ≡ false
  pub unshared : (stands_on_shared w (path_end w n new).mount || is_some (group_of w (path_end w n old).mount)) ≡ false
  pub inside : is_below w.forest (path_end w n new).mount (path_end w n old).mount ≡ true
  pub world : with_pivot w (path_end w n new).mount (root_id w n) (path_end w n old) ≡ v

pub pivot_accepted : (w : WorldView) (n : ℕ) (new old : List (List ℕ)) (v : WorldView) → pivoted w n new old ≡ Ok v → IsAcceptedPivot w n new old v
pivot_accepted w n new old v e =
    let a = accepted (refuse_if (is_tree w n) Detached ∷ pivoted_refusals w (walk w.skel w.forest n new) (walk w.skel w.forest n old)) _ _ e in
    let early = a.1.1 in
    let late = early.1.1.1 in
    record {
      attached = not_refused _ _ a.1.0;
      begun = has_ended _ early.0;
      named = not-false _ (not_refused _ _ early.1.0);
      placed = not_refused _ _ early.1.1.0;
      ended = has_ended _ late.0;
      off_root = not_refused _ _ late.1.0;
      unshared = not_refused _ _ late.1.1.0;
      inside = not-false _ (not_refused _ _ late.1.1.1.0);
      world = a.0;
    }

-- what a command answers goes by whether the copies are too many, and by nothing else
pub record IsLate {T : Type 0} (o : Result T Fault) (w : WorldView) (src : Source) (p : Place) (effect : T) : Type 0 where
  pub decided : o ≡ outcome (too_many w src p ∷ []) effect

-- so what is planned of the source tree decides
module _ {T : Type 0} {w : WorldView} {src : Source} {p : Place} {effect : T} {o : Result T Fault} (late : IsLate o w src p effect) (given : Source) (same : given ≡ src) where
  judged : too_many_mounts w (length (new_copies w src p)) ≡ too_many_mounts w (length (new_copies w given p))
  judged = ap (λ (s : Source). too_many_mounts w (length (new_copies w s p))) (sym same)

  pub planned_done : too_many_mounts w (length (new_copies w given p)) ≡ false → o ≡ Ok effect
  planned_done few = late.decided ∙ passed _ TooMany [] _ (judged ∙ few)

  pub planned_refused : (f : Fault) → (f ≡ TooMany) × IsTrue (too_many_mounts w (length (new_copies w given p))) → o ≡ Err f
  planned_refused f r = late.decided ∙ stopped _ TooMany [] _ (judged ∙ r.1) ∙ ap (λ (f : Fault). Err f) (sym r.0)

-- a mount whose filesystem is named, whose path ends off a root place, and of which at most one access time is said
pub mounted_late : (w : WorldView) (n : ℕ) (name : List ℕ) (path : List (List ℕ)) (set : SetWords) (f : ℕ) (p : Place) → fs_named w.skel name ≡ Some f → walk w.skel w.forest n path ≡ Ok p → is_root_place w p ≡ false
    → sets_two_times set ≡ false → IsLate (mounted_with w n name path set) w (fresh_with w f (new_with set)) p (copied_with_id w (fresh_with w f (new_with set)) p)
mounted_late w n name path set f p named ended off one = record {
  decided = (λ i. outcome (mounted_refusals w set (named i) (ended i)) (mounted_effect w set (named i) (ended i)))
      ∙ passed (is_root_place w p) RootPlace _ _ off
      ∙ passed (sets_two_times set) BadAttr _ _ one;
}

-- a bind whose paths end, the other one off a root place, and whose mount may be bound
pub bound_late : (w : WorldView) (n : ℕ) (recursive : Bool) (from to : List (List ℕ)) (s p : Place) → walk w.skel w.forest n from ≡ Ok s → walk w.skel w.forest n to ≡ Ok p → is_root_place w p ≡ false
    → (state_of w s.mount).unbindable ≡ false → IsLate (bound w n recursive from to) w (source_at w recursive s) p (copied_with_id w (source_at w recursive s) p)
bound_late w n recursive from to s p begun ended off bindable = record {
  decided = (λ i. outcome (bound_refusals w recursive (begun i) (ended i)) (bound_effect w recursive (begun i) (ended i)))
      ∙ passed (is_root_place w p) RootPlace _ _ off
      ∙ passed (state_of w s.mount).unbindable Unbindable _ _ bindable;
}

-- what is left to see of a move once both places are judged
abbrev pub past_places : WorldView → Place → Place → Result WorldView Fault
past_places w s p = outcome (refuse_if (is_below w.forest s.mount p.mount) IntoItself ∷ refuse_if (is_some (group_of w p.mount) && any_unbindable w s.mount) UnbindableInside
    ∷ too_many w (tree_of w s.mount) p ∷ []) (copied w (tree_of w s.mount) p)

-- a move of a mount that is no root mount from a parent that is not shared, where both paths end
pub moved_judged : (w : WorldView) (n : ℕ) (from to : List (List ℕ)) (s p : Place) → is_tree w n ≡ false → walk w.skel w.forest n from ≡ Ok s → is_mount_root w s ≡ true → is_root_mount w s ≡ false
    → walk w.skel w.forest n to ≡ Ok p → is_root_place w p ≡ false → stands_on_shared w s.mount ≡ false
    → moved w n from to ≡ past_places w s p
moved_judged w n from to s p attached begun named placed ended off unshared =
    passed (is_tree w n) Detached _ _ attached
    ∙ (λ i. outcome (moved_refusals w (begun i) (ended i)) (moved_effect w (begun i) (ended i)))
    ∙ passed (not (is_mount_root w s)) NotMountRoot _ _ (ap not named)
    ∙ passed (is_root_mount w s) RootPlace _ _ placed
    ∙ passed (is_root_place w p) RootPlace _ _ off
    ∙ passed (stands_on_shared w s.mount) SharedParent _ _ unshared

-- once neither the place is below it nor an unbindable mount would come below a shared one
pub moved_late : (w : WorldView) (n : ℕ) (from to : List (List ℕ)) (s p : Place) → moved w n from to ≡ past_places w s p
    → is_below w.forest s.mount p.mount ≡ false → is_some (group_of w p.mount) && any_unbindable w s.mount ≡ false → IsLate (moved w n from to) w (tree_of w s.mount) p (copied w (tree_of w s.mount) p)
moved_late w n from to s p judged outside bindable = record { decided = judged ∙ passed (is_below w.forest s.mount p.mount) IntoItself _ _ outside ∙ passed _ UnbindableInside _ _ bindable }
