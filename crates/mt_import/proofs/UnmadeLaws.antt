-- Tables of which nothing is made.
use Rattle.std.proofs.Common.{◌≡◌, inl, ℕ, suc, ◌+◌, true, false, ◌&&◌, List, [], ◌∷◌, ◌++◌, length, map, refl, sym, ap, ◌∙◌, subst, arith}
use Rattle.std.proofs.lemmas.Bool.Decides.{nat_tests}
use Rattle.std.proofs.lemmas.List.{append-nil}
use Rattle.std.specs.BTreeMap.{BTreeMap}
use Rattle.std.specs.List.{flat_map, list_all, list_any, AllByRecursion}
use Rattle.mt_import.specs.declared.groups.Group.{Group}
use Rattle.mt_import.specs.declared.space.Space.{Space}
use Rattle.mt_import.specs.Import.{IsImport}
use Rattle.mt_import.specs.Reading.{ToldMount}
use Rattle.mt_import.specs.Plans.{first_rows, is_lockable, are_numbered, is_well_ordered, rows_made, is_sound, stand_on_made, rows_made_from}
use Rattle.mt_import.specs.Script.{IsScript}
use Rattle.mt_import.specs.Spaces.{spaces_text}
use Rattle.mt_import.specs.Telling.{is_made, is_shown, tree_rows, space_comments, HasMakingOrder}
use Rattle.mt_import.specs.Unmade.{IsUnmade, AreUnmade}

-- one more table
pub unmade_more : (table : ℕ) (spaces : List Space) (of : Space) → AreUnmade table spaces → IsUnmade (table + length spaces) of → AreUnmade table (spaces ++ of ∷ [])
unmade_more table [] of all one = (subst (λ n. IsUnmade n of) (omega arith) one, tt)
unmade_more table (x ∷ xs) of (first, others) one = (first, unmade_more (suc table) xs of others (subst (λ n. IsUnmade n of) (omega arith) one))

pub unmade_pushed : (spaces new : List Space) (of : Space) (before : ℕ) → new ≡ spaces ++ of ∷ [] → length spaces ≡ before → AreUnmade 1 spaces → IsUnmade (before + 1) of → AreUnmade 1 new
unmade_pushed spaces new of before is count all one =
    subst (λ x. AreUnmade 1 x) (sym is) (unmade_more 1 spaces of all (subst (λ n. IsUnmade n of) (omega (arith, count)) one))

not_shown : (table : ℕ) (of : Space) → IsUnmade table of → is_shown of ≡ false
not_shown table of un = ap (λ ways. is_made ways 0) un.ways

-- nothing is locked of them
not_lockable : (rows : List ToldMount) (table : ℕ) (of : Space) → IsUnmade table of → is_lockable rows of ≡ false
not_lockable rows table of un = rw (not_shown table of un) refl

-- they are numbered as they come
numbered : (rows : List ToldMount) (table : ℕ) (spaces : List Space) → AreUnmade table spaces → are_numbered rows table 0 spaces ≡ true
numbered rows table [] all = refl
numbered rows table (of ∷ others) (first, rest) =
    let ih = numbered rows (suc table) others rest in
    let hidden = not_shown table of first in
    let bare = not_lockable rows table of first in
    let placed = first.placed in
    let made = first.made in
    let one = first.numbered in
    grind (arith, nat_tests)

-- none of their mounts stands on another
ordered : (table : ℕ) (spaces : List Space) → AreUnmade table spaces → list_all is_well_ordered spaces ≡ true
ordered table [] all = refl
ordered table (of ∷ others) (first, rest) =
    ap (λ mounts. stand_on_made of.tree.mounts of.ways.items 0 mounts && list_all is_well_ordered others) first.mounts ∙ ordered (suc table) others rest

-- none of them is shown
hidden : (table : ℕ) (spaces : List Space) → AreUnmade table spaces → list_any is_shown spaces ≡ false
hidden table [] all = refl
hidden table (of ∷ others) (first, rest) = rw (not_shown table of first) (hidden (suc table) others rest)

-- they have no rows that are made
rowless : (table : ℕ) (spaces : List Space) → AreUnmade table spaces → flat_map rows_made spaces ≡ []
rowless table [] all = refl
rowless table (of ∷ others) (first, rest) =
    ap (λ mounts. rows_made_from of.ways.items 0 mounts ++ flat_map rows_made others) first.mounts ∙ rowless (suc table) others rest

-- and no text
textless : (groups : BTreeMap ℕ Group) (table : ℕ) (spaces : List Space) → AreUnmade table spaces → spaces_text groups spaces [] ≡ []
textless groups table [] all = refl
textless groups table (of ∷ others) (first, rest) = rw (not_shown table of first) (textless groups (suc table) others rest)

sound : (groups : BTreeMap ℕ Group) (spaces : List Space) → AreUnmade 1 spaces → is_sound groups spaces ≡ true
sound groups spaces all = rw (numbered (first_rows spaces) 1 spaces all, ordered 1 spaces all, rowless 1 spaces all) refl

-- a script that tells all their rows
pub told_alone : (groups : BTreeMap ℕ Group) (spaces : List Space) (s0 s1 s2 : List ℕ) → AreUnmade 1 spaces → s0 ≡ [] → s1 ≡ s0 ++ flat_map tree_rows spaces
    → s2 ≡ s1 ++ flat_map space_comments spaces → AllByRecursion HasMakingOrder spaces → IsScript s2 → IsImport (map (λ (s : Space). s.tree.told) spaces) s2
told_alone groups spaces s0 s1 s2 all e0 e1 e2 trees lines = record {
  groups = groups;
  spaces = spaces;
  told = refl;
  trees = trees;
  sound = sound groups spaces all;
  front = [];
  fronted = inl (hidden 1 spaces all, refl);
  between = [];
  text =
      e2 ∙ ap (λ s. s ++ flat_map space_comments spaces) (e1 ∙ ap (λ s. s ++ flat_map tree_rows spaces) e0)
      ∙ sym (ap (λ t. ((flat_map tree_rows spaces ++ flat_map space_comments spaces) ++ []) ++ t) (textless groups 1 spaces all)
      ∙ append-nil ((flat_map tree_rows spaces ++ flat_map space_comments spaces) ++ []) ∙ append-nil (flat_map tree_rows spaces ++ flat_map space_comments spaces));
  lines = lines;
}
