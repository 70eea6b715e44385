-- What a write of one slot makes of the rows in the slots, and of the IDs in them; slots that have no ID.
use Rattle.std.proofs.Common.{◌≡◌, ◌≢◌, ℕ, zero, suc, ◌-◌, ◌≤◌, true, cond, not, eqb, eq-eqb, length, max, take, replicate, List, [], ◌∷◌, ◌++◌, slice_get, slice_set, Option, Some, None, refl, sym, ap, ◌∙◌, inl, inr, arith}
use Rattle.std.proofs.lemmas.Bool.{cases_eq, ne_eqb}
use Rattle.std.proofs.lemmas.Bool.Decides.{nat_tests}
use Rattle.std.proofs.lemmas.List.{take_all}
use Rattle.mt_skel.specs.Keyed.{row_at, put, rises}
use Rattle.mt_skel.proofs.KeyedLaws.{row_at-put, rises-put, rises-filter, same_rows}
use Rattle.mt_lists.specs.declared.ties.Tie.{Tie}
use Rattle.mt_lists.specs.Lists.{ListRow, listed_id, without_row}
use Rattle.mt_lists.specs.Slots.{tie_in, ids_in, rows_in}
use Rattle.mt_lists.specs.SlotLists.{id_in, lengthened}
use Rattle.mt_lists.specs.Ties.{id_of_tie, id_at, tied_row, AreApart}
use Rattle.mt_lists.proofs.IdLaws.{row-without}
use Rattle.mt_lists.proofs.TableLaws.{length-put-most}

apart-rest : (x : Option Tie) (slots : List (Option Tie)) → AreApart (tie_in (x ∷ slots)) → AreApart (tie_in slots)
apart-rest x slots apart j k i a b = omega (arith, apart (suc j) (suc k) i a b)

-- two rows more, in either order
put-put : (a b : ListRow) (rows : List ListRow) → rises listed_id rows ≡ true → a.id ≢ b.id → put listed_id a (put listed_id b rows) ≡ put listed_id b (put listed_id a rows)
put-put a b rows h ne =
    same_rows listed_id (put listed_id a (put listed_id b rows)) (put listed_id b (put listed_id a rows)) (rises-put listed_id a _ (rises-put listed_id b rows h)) (rises-put listed_id b _ (rises-put listed_id a rows h))
    (λ q. row_at-put listed_id q a (put listed_id b rows) ∙ ap (cond (eqb q a.id) (Some a)) (row_at-put listed_id q b rows)
    ∙ go q (row_at listed_id q rows)
    ∙ sym (row_at-put listed_id q b (put listed_id a rows) ∙ ap (cond (eqb q b.id) (Some b)) (row_at-put listed_id q a rows)))
  where
    go : (q : ℕ) (o : Option ListRow) → cond (eqb q a.id) (Some a) (cond (eqb q b.id) (Some b) o) ≡ cond (eqb q b.id) (Some b) (cond (eqb q a.id) (Some a) o)
    go q o = grind (arith, nat_tests, ne)

-- a row that is put and taken away, and one that is put beside one that is taken away
without-put : (r : ListRow) (rows : List ListRow) → rises listed_id rows ≡ true → row_at listed_id r.id rows ≡ None → without_row r.id (put listed_id r rows) ≡ rows
without-put r rows h absent =
    same_rows listed_id (without_row r.id (put listed_id r rows)) rows (rises-filter listed_id (λ (x : ListRow). not (eqb r.id x.id)) _ (rises-put listed_id r rows h)) h
    (λ q. row-without r.id q (put listed_id r rows) (rises-put listed_id r rows h) ∙ ap (cond (eqb r.id q) None) (row_at-put listed_id q r rows) ∙ go q)
  where
    go : (q : ℕ) → cond (eqb r.id q) None (cond (eqb q r.id) (Some r) (row_at listed_id q rows)) ≡ row_at listed_id q rows
    go q = elim (cases_eq r.id q) [
      | inl same ↦ ap (λ b. cond b None (cond (eqb q r.id) (Some r) (row_at listed_id q rows))) (eq-eqb r.id q same) ∙ sym (ap (λ i. row_at listed_id i rows) (sym same) ∙ absent)
      | inr ne ↦ ap (λ b. cond b None (cond (eqb q r.id) (Some r) (row_at listed_id q rows))) (ne_eqb r.id q ne) ∙ ap (λ b. cond b (Some r) (row_at listed_id q rows)) (ne_eqb q r.id (λ e. ne (sym e)))
    ]

put-without : (i : ℕ) (r : ListRow) (rows : List ListRow) → rises listed_id rows ≡ true → r.id ≢ i → put listed_id r (without_row i rows) ≡ without_row i (put listed_id r rows)
put-without i r rows h ne =
    same_rows listed_id (put listed_id r (without_row i rows)) (without_row i (put listed_id r rows))
    (rises-put listed_id r _ (rises-filter listed_id (λ (x : ListRow). not (eqb i x.id)) rows h)) (rises-filter listed_id (λ (x : ListRow). not (eqb i x.id)) _ (rises-put listed_id r rows h))
    (λ q. row_at-put listed_id q r (without_row i rows) ∙ ap (cond (eqb q r.id) (Some r)) (row-without i q rows h)
    ∙ go q (row_at listed_id q rows)
    ∙ sym (row-without i q (put listed_id r rows) (rises-put listed_id r rows h) ∙ ap (cond (eqb i q) None) (row_at-put listed_id q r rows)))
  where
    go : (q : ℕ) (o : Option ListRow) → cond (eqb q r.id) (Some r) (cond (eqb i q) None o) ≡ cond (eqb i q) None (cond (eqb q r.id) (Some r) o)
    go q o = grind (arith, nat_tests, ne)

-- the rows rise
pub rises-in : (slots : List (Option Tie)) → rises listed_id (rows_in slots) ≡ true
unfolding rows_in
rises-in [] = refl
rises-in (None ∷ slots) = rises-in slots
rises-in (Some t ∷ slots) = rises-put listed_id (tied_row t) (rows_in slots) (rises-in slots)

-- an ID that no slot has
pub row-no-tie : (slots : List (Option Tie)) (i : ℕ) → ((k : ℕ) → id_at (tie_in slots) k ≢ Some i) → row_at listed_id i (rows_in slots) ≡ None
unfolding rows_in
row-no-tie [] i none = refl
row-no-tie (None ∷ slots) i none = row-no-tie slots i (λ k. none (suc k))
row-no-tie (Some t ∷ slots) i none =
    row_at-put listed_id i (tied_row t) (rows_in slots) ∙ ap (λ b. cond b (Some (tied_row t)) (row_at listed_id i (rows_in slots))) (ne_eqb i t.id (λ e. none zero (ap (λ j. Some j) (sym e))))
    ∙ row-no-tie slots i (λ k. none (suc k))

-- a row comes into a slot that is free
pub rows-put : (slots : List (Option Tie)) (k : ℕ) (t : Tie) → slice_get slots k ≡ Some None → row_at listed_id t.id (rows_in slots) ≡ None → rows_in (slice_set slots k (Some t)) ≡ put listed_id (tied_row t) (rows_in slots)
unfolding rows_in
rows-put [] k t free absent = absurd (cc)
rows-put (None ∷ slots) zero t free absent = refl
rows-put (Some u ∷ slots) zero t free absent = absurd (cc)
rows-put (None ∷ slots) (suc k) t free absent = rows-put slots k t free absent
rows-put (Some u ∷ slots) (suc k) t free absent =
    let was : cond (eqb t.id u.id) (Some (tied_row u)) (row_at listed_id t.id (rows_in slots)) ≡ None = sym (row_at-put listed_id t.id (tied_row u) (rows_in slots)) ∙ absent in
    let ne : u.id ≢ t.id = λ (e : u.id ≡ t.id). (let v : Some (tied_row u) ≡ None = sym (ap (λ b. cond b (Some (tied_row u)) (row_at listed_id t.id (rows_in slots))) (eq-eqb t.id u.id (sym e))) ∙ was in absurd (cc)) in
    let rest : row_at listed_id t.id (rows_in slots) ≡ None = sym (ap (λ b. cond b (Some (tied_row u)) (row_at listed_id t.id (rows_in slots))) (ne_eqb t.id u.id (λ e. ne (sym e)))) ∙ was in
    ap (put listed_id (tied_row u)) (rows-put slots k t free rest) ∙ put-put (tied_row u) (tied_row t) (rows_in slots) (rises-in slots) ne

-- a row goes from its slot
pub rows-without : (slots : List (Option Tie)) → AreApart (tie_in slots) → (k : ℕ) (t : Tie) → tie_in slots k ≡ Some t → rows_in (slice_set slots k None) ≡ without_row t.id (rows_in slots)
unfolding rows_in
rows-without [] apart k t e = absurd (let v : None ≡ Some t = e in cc)
rows-without (None ∷ slots) apart zero t e = absurd (let v : None ≡ Some t = e in cc)
rows-without (None ∷ slots) apart (suc k) t e = rows-without slots (apart-rest None slots apart) k t e
rows-without (Some u ∷ slots) apart zero t e =
    let v : Some u ≡ Some t = e in
    let same : u ≡ t = cc in
    let none : row_at listed_id u.id (rows_in slots) ≡ None = row-no-tie slots u.id (λ k f. (let z : zero ≡ suc k = apart zero (suc k) u.id refl f in absurd (omega (arith, z)))) in
    sym (without-put (tied_row u) (rows_in slots) (rises-in slots) none) ∙ ap (λ (x : Tie). without_row x.id (put listed_id (tied_row u) (rows_in slots))) same
rows-without (Some u ∷ slots) apart (suc k) t e =
    let ne : u.id ≢ t.id = λ (s : u.id ≡ t.id). (let z : zero ≡ suc k = apart zero (suc k) u.id refl (ap id_of_tie e ∙ ap (λ i. Some i) (sym s)) in absurd (omega (arith, z))) in
    ap (put listed_id (tied_row u)) (rows-without slots (apart-rest (Some u) slots apart) k t e) ∙ put-without t.id (tied_row u) (rows_in slots) (rises-in slots) ne

-- a slot gets other neighbours
pub rows-kept : (slots : List (Option Tie)) (k : ℕ) (t u : Tie) → tie_in slots k ≡ Some t → tied_row u ≡ tied_row t → rows_in (slice_set slots k (Some u)) ≡ rows_in slots
unfolding rows_in
rows-kept [] k t u e same = absurd (let v : None ≡ Some t = e in cc)
rows-kept (None ∷ slots) zero t u e same = absurd (let v : None ≡ Some t = e in cc)
rows-kept (None ∷ slots) (suc k) t u e same = rows-kept slots k t u e same
rows-kept (Some x ∷ slots) zero t u e same =
    let v : Some x ≡ Some t = e in
    let w : x ≡ t = cc in
    ap (λ r. put listed_id r (rows_in slots)) (same ∙ ap tied_row (sym w))
rows-kept (Some x ∷ slots) (suc k) t u e same = ap (put listed_id (tied_row x)) (rows-kept slots k t u e same)

-- the IDs in the slots
pub id-in : (slots : List (Option Tie)) (k : ℕ) → id_in (ids_in slots) k ≡ id_at (tie_in slots) k
id-in [] k = refl
id-in (x ∷ slots) zero = refl
id-in (x ∷ slots) (suc k) = id-in slots k

pub ids-set : (slots : List (Option Tie)) (k : ℕ) (o : Option Tie) → ids_in (slice_set slots k o) ≡ slice_set (ids_in slots) k (id_of_tie o)
ids-set [] k o = refl
ids-set (x ∷ slots) zero o = refl
ids-set (x ∷ slots) (suc k) o = ap (λ xs. id_of_tie x ∷ xs) (ids-set slots k o)

pub ids-kept : (slots : List (Option Tie)) (k : ℕ) (t u : Tie) → tie_in slots k ≡ Some t → u.id ≡ t.id → ids_in (slice_set slots k (Some u)) ≡ ids_in slots
ids-kept [] k t u e same = refl
ids-kept (x ∷ slots) zero t u e same = ap (λ o. o ∷ ids_in slots) (ap (λ i. Some i) same ∙ sym (ap id_of_tie e))
ids-kept (x ∷ slots) (suc k) t u e same = ap (λ xs. id_of_tie x ∷ xs) (ids-kept slots k t u e same)

-- a slot without a tie has no ID to lose
pub ids-vacant : (slots : List (Option Tie)) (k : ℕ) → tie_in slots k ≡ None → slice_set (ids_in slots) k None ≡ ids_in slots
ids-vacant [] k e = refl
ids-vacant (x ∷ slots) zero e = ap (λ o. o ∷ ids_in slots) (sym (ap id_of_tie e))
ids-vacant (x ∷ slots) (suc k) e = ap (λ xs. id_of_tie x ∷ xs) (ids-vacant slots k e)

-- how many rows there are, at most
pub length-in : (slots : List (Option Tie)) → length (rows_in slots) ≤ length slots
unfolding rows_in
length-in [] = omega arith
length-in (None ∷ slots) = omega (arith, length-in slots)
length-in (Some t ∷ slots) = omega (arith, length-in slots, length-put-most (tied_row t) (rows_in slots))

-- no slots
pub rows-no-slots : (slots : List (Option Tie)) → slots ≡ [] → rows_in slots ≡ []
unfolding rows_in
rows-no-slots slots e = ap rows_in e

-- more slots, which have no ID
rows-none : (n : ℕ) → rows_in (replicate n None) ≡ []
unfolding rows_in
rows-none zero = refl
rows-none (suc n) = rows-none n

pub rows-wider : (slots : List (Option Tie)) (n : ℕ) → rows_in (slots ++ replicate n None) ≡ rows_in slots
unfolding rows_in
rows-wider [] n = rows-none n
rows-wider (None ∷ slots) n = rows-wider slots n
rows-wider (Some t ∷ slots) n = ap (put listed_id (tied_row t)) (rows-wider slots n)

tie-none : (n k : ℕ) → tie_in (replicate n None) k ≡ None
tie-none zero k = refl
tie-none (suc n) zero = refl
tie-none (suc n) (suc k) = tie-none n k

-- each slot has the tie that it had, and those that are new have none
pub tie-wider : (slots : List (Option Tie)) (n k : ℕ) → tie_in (slots ++ replicate n None) k ≡ tie_in slots k
tie-wider [] n k = tie-none n k
tie-wider (x ∷ slots) n zero = refl
tie-wider (x ∷ slots) n (suc k) = tie-wider slots n k

ids-none : (n : ℕ) → ids_in (replicate n None) ≡ replicate n None
ids-none zero = refl
ids-none (suc n) = ap (λ xs. None ∷ xs) (ids-none n)

-- and so it is with their IDs
pub ids-wider : (slots : List (Option Tie)) (n : ℕ) → ids_in (slots ++ replicate n None) ≡ ids_in slots ++ replicate n None
ids-wider [] n = ids-none n
ids-wider (x ∷ slots) n = ap (λ xs. id_of_tie x ∷ xs) (ids-wider slots n)

-- as many slots as before, or this many
pub wide : (slots new : List (Option Tie)) (width length_t most : ℕ) → length_t ≡ length slots → most ≡ max length_t width → new ≡ take most slots ++ replicate (most - length_t) None → new ≡ slots ++ replicate (width - length slots) None
wide slots new width length_t most l m e =
    e ∙ ap (λ xs. xs ++ replicate (most - length_t) None) (take_all most slots (omega (arith, l, m))) ∙ ap (λ n. slots ++ replicate n None) (omega (arith, l, m))

pub lengthened-in : (slots new : List (Option Tie)) (width : ℕ) → new ≡ slots ++ replicate (width - length slots) None → ids_in new ≡ lengthened width (ids_in slots)
lengthened-in slots new width e = ap ids_in e ∙ ids-wider slots (width - length slots) ∙ ap (λ n. ids_in slots ++ replicate (width - n) None) (length-ids_in slots)
  where
    length-ids_in : (slots : List (Option Tie)) → length slots ≡ length (ids_in slots)
    length-ids_in [] = refl
    length-ids_in (x ∷ slots) = ap suc (length-ids_in slots)
