-- What a reader of tied lists sees: how many IDs a list has, and what follows a place; no ties, and the same ties elsewhere.
use Rattle.std.proofs.Common.{◌≡◌, ℕ, suc, ◌<◌, ◌^◌, true, length, nat_eq, subst, List, [], ◌∷◌, Option, Some, None, refl, sym, ap, ◌∙◌, arith}
use Rattle.std.specs.Option.{IfSome, option_map, option_and_then}
use Rattle.std.specs.Map.{lookup}
use Rattle.indexmap.specs.IndexMap.{get}
use Rattle.mt_skel.specs.Keyed.{row_at, rises, among}
use Rattle.mt_lists.specs.declared.entries.Entry.{Entry}
use Rattle.mt_lists.specs.declared.ties.Tie.{Tie}
use Rattle.mt_lists.specs.declared.tops.Top.{Top}
use Rattle.mt_lists.specs.declared.tops.FoundTop.{FoundTop}
use Rattle.mt_lists.specs.Lists.{ListRow, listed_id, ids, above, next_of}
use Rattle.mt_lists.specs.Neighbours.{Ends, below, last_from, ends_of}
use Rattle.mt_lists.specs.SlotLists.{id_in, LeadsTo}
use Rattle.mt_lists.specs.Slots.{tie_in, ids_in, rows_in}
use Rattle.mt_lists.specs.Tables.{Index, tie_of_entry, row_of_entry, ties_of, rows_of}
use Rattle.mt_lists.specs.Ties.{id_of_tie, id_at, ends_in, IsTied}
use Rattle.mt_lists.proofs.TableLaws.{length-ids, row-rows, rows-empty, rows-same, lead-own}
use Rattle.mt_lists.proofs.SlotLaws.{id-in}
use Rattle.mt_lists.proofs.LeadLaws.{lead-more, ends-parts, ends-kept}
use Rattle.mt_lists.proofs.PlaceLaws.{of-lead, top-ends}
use Rattle.mt_lists.proofs.WalkLaws.{next-among}

module _ (ties : ℕ → Option Tie) (rows : List ListRow) (tops : Index Top) (x : IsTied ties rows tops) where
  -- how many IDs a list has
  pub top-count : (n : ℕ) (top : Top) → get nat_eq tops n ≡ Some top → top.count ≡ length (ids rows n)
  top-count n top found =
      let e = top-ends ties rows tops x 0 n top found in
      (ends-parts ties top e.0 e.2).2 ∙ go (ids rows n) e.0 e.1
    where
      go : (xs : List ℕ) (e : Ends) → ends_of xs ≡ Some e → e.count ≡ length xs
      go [] e is = absurd (cc)
      go (y ∷ ys) e is = let v : record { first = y; last = last_from y ys; count = suc (length ys) } ≡ e = cc in ap (λ (z : Ends). z.count) (sym v)

  pub top-small : (n : ℕ) → length rows < 2 ^ 63 → (found : Option FoundTop) → option_map (λ (f : FoundTop). f.top) found ≡ get nat_eq tops n → IfSome found (λ f. f.top.count < 2 ^ 63)
  top-small n few None is = tt
  top-small n few (Some f) is =
      let c = top-count n f.top (sym is) in
      omega (arith, c, few, length-ids rows n)

  -- what follows a place
  pub after-told : (place : ℕ) → LeadsTo (id_at ties) (option_and_then (λ (t : Tie). t.after) (ties place)) (option_and_then (next_of rows) (id_at ties place))
  after-told place = go (ties place) refl
    where
      go : (o : Option Tie) → ties place ≡ o → LeadsTo (id_at ties) (option_and_then (λ (t : Tie). t.after) o) (option_and_then (next_of rows) (id_of_tie o))
      go None is = refl
      go (Some t) is =
          (x.ties_told place t is).after_told
          ∙ sym (ap (λ o. option_map (λ i. Some i) (option_and_then (λ n. above t.id (ids rows n)) (option_map (λ (r : ListRow). r.number) o))) (x.rows_told place t is))

-- no ties
pub tied-none : (ties : ℕ → Option Tie) (rows : List ListRow) (tops : Index Top) → ((k : ℕ) → ties k ≡ None) → rows ≡ [] → tops.entries ≡ [] → IsTied ties rows tops
tied-none ties rows tops none e f = record {
  rising = ap (rises listed_id) e;
  apart = λ j k i a b. absurd (let v : None ≡ Some i = sym (ap id_of_tie (none j)) ∙ a in cc);
  rows_told = λ k t a. absurd (let v : None ≡ Some t = sym (none k) ∙ a in cc);
  ties_told = λ k t a. absurd (let v : None ≡ Some t = sym (none k) ∙ a in cc);
  tops_told = λ n. ap (λ es. option_map (ends_in ties) (lookup (nat_eq n) es)) f ∙ sym (ap (λ r. option_map (λ y. Some y) (ends_of (ids r n))) e);
}

-- the same ties and rows
pub tied-same : (ties new : ℕ → Option Tie) (rows new_rows : List ListRow) (tops ends : Index Top) → ((k : ℕ) → new k ≡ ties k) → new_rows ≡ rows → ends.entries ≡ tops.entries → IsTied ties rows tops → IsTied new new_rows ends
tied-same ties new rows new_rows tops ends same e f x = record {
  rising = ap (rises listed_id) e ∙ x.rising;
  apart = λ j k i a b. x.apart j k i (sym (ap id_of_tie (same j)) ∙ a) (sym (ap id_of_tie (same k)) ∙ b);
  rows_told = λ k t a. ap (row_at listed_id t.id) e ∙ x.rows_told k t (sym (same k) ∙ a);
  ties_told = λ k t a.
      let told = x.ties_told k t (sym (same k) ∙ a) in
      record {
        before_told = lead-more (id_at ties) (id_at new) t.before _ id-same told.before_told ∙ ap (λ r. option_map (λ i. Some i) (below t.id (ids r t.number))) (sym e);
        after_told = lead-more (id_at ties) (id_at new) t.after _ id-same told.after_told ∙ ap (λ r. option_map (λ i. Some i) (above t.id (ids r t.number))) (sym e);
      };
  tops_told = λ n.
      ap (λ es. option_map (ends_in new) (lookup (nat_eq n) es)) f
      ∙ ends-kept ties new id-same (get nat_eq tops n) (ends_of (ids rows n)) (x.tops_told n)
      ∙ ap (λ r. option_map (λ y. Some y) (ends_of (ids r n))) (sym e);
}
  where
    id-same : (s q : ℕ) → id_at ties s ≡ Some q → id_at new s ≡ Some q
    id-same s q f = ap id_of_tie (same s) ∙ f

-- the ties of a table of entries, and of one with the same entries
pub table-none : (m : Index Entry) (tops : Index Top) → m.entries ≡ [] → tops.entries ≡ [] → IsTied (ties_of m) (rows_of m) tops
table-none m tops e f = tied-none (ties_of m) (rows_of m) tops (λ k. ap (λ es. option_map (tie_of_entry k) (lookup (nat_eq k) es)) e) (rows-empty m e) f

pub table-same : (m new : Index Entry) (tops ends : Index Top) → new.entries ≡ m.entries → ends.entries ≡ tops.entries → IsTied (ties_of m) (rows_of m) tops → IsTied (ties_of new) (rows_of new) ends
table-same m new tops ends e f x = tied-same (ties_of m) (ties_of new) (rows_of m) (rows_of new) tops ends (λ k. ap (λ es. option_map (tie_of_entry k) (lookup (nat_eq k) es)) e) (rows-same m new e) f x

-- what follows an ID in such a table
pub table-after : (m : Index Entry) (tops : Index Top) → IsTied (ties_of m) (rows_of m) tops → (i : ℕ) → option_and_then (λ (t : Tie). t.after) (ties_of m i) ≡ next_of (rows_of m) i
table-after m tops x i = lead-own m _ _ (after-told (ties_of m) (rows_of m) tops x i) ∙ go (get nat_eq m i) (row-rows m i)
  where
    go : (o : Option Entry) → row_at listed_id i (rows_of m) ≡ option_map (row_of_entry i) o → option_and_then (next_of (rows_of m)) (id_of_tie (option_map (tie_of_entry i) o)) ≡ next_of (rows_of m) i
    go None e = sym (ap (λ r. option_and_then (λ n. above i (ids (rows_of m) n)) (option_map (λ (r : ListRow). r.number) r)) e)
    go (Some y) e = refl

-- what follows a slot, by the IDs in the slots
pub lead-in : (slots : List (Option Tie)) (o i : Option ℕ) → LeadsTo (id_at (tie_in slots)) o i → LeadsTo (id_in (ids_in slots)) o i
lead-in slots o i e = lead-more (id_at (tie_in slots)) (id_in (ids_in slots)) o i (λ s q f. id-in slots s ∙ f) e

pub after-in : (slots : List (Option Tie)) (tops : Index Top) → IsTied (tie_in slots) (rows_in slots) tops → (slot : ℕ)
    → LeadsTo (id_in (ids_in slots)) (option_and_then (λ (t : Tie). t.after) (tie_in slots slot)) (option_and_then (next_of (rows_in slots)) (id_in (ids_in slots) slot))
after-in slots tops x slot =
    lead-in slots _ _ (after-told (tie_in slots) (rows_in slots) tops x slot) ∙ ap (λ o. option_map (λ i. Some i) (option_and_then (next_of (rows_in slots)) o)) (sym (id-in slots slot))

-- a walk along the slots of a list: the ID in this one is in the list, and the next slot has the next ID
pub walk-slot : (slots : List (Option ℕ)) (rows : List ListRow) (n slot id : ℕ) (here after : Option ℕ) → rises listed_id rows ≡ true → here ≡ Some slot → id_in slots slot ≡ Some id
    → LeadsTo (id_in slots) after (option_and_then (next_of rows) (id_in slots slot)) → IfSome (option_and_then (id_in slots) here) (λ k. among (ids rows n) k ≡ true)
    → (among (ids rows n) id ≡ true) × (option_and_then (id_in slots) after ≡ above id (ids rows n)) × (option_and_then (id_in slots) here ≡ Some id)
walk-slot slots rows n slot id here after h is at lead inside =
    let w : option_and_then (id_in slots) here ≡ Some id = ap (option_and_then (id_in slots)) is ∙ at in
    let m : among (ids rows n) id ≡ true = subst (λ o. IfSome o (λ k. among (ids rows n) k ≡ true)) w inside in
    (m, of-lead (id_in slots) after _ lead ∙ ap (option_and_then (next_of rows)) at ∙ next-among rows n id h m, w)
