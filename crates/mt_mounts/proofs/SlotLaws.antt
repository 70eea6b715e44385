-- What a slab of mounts holds, and the rows that these mounts make.
use Rattle.std.proofs.Common.{◌≡◌, ◌≢◌, ℕ, zero, suc, ◌+◌, Bool, true, cond, not, eqb, eq-eqb, List, [], ◌∷◌, map, length, slice_index_or, Option, Some, None, refl, sym, ap, ◌∙◌, inl, inr, arith}
use Rattle.std.specs.Option.{option_map}
use Rattle.std.proofs.lemmas.Bool.{cases_eq, ne_eqb, false≢true}
use Rattle.std.proofs.lemmas.Bool.Decides.{nat_tests}
use Rattle.std.proofs.lemmas.Option.{cond_some, same_Some}
use Rattle.slab.specs.Slab.{Slab, entries, entries_from, slab_len}
use Rattle.slab.proofs.SlabLemmas.{length-entries}
use Rattle.mt_skel.specs.Keyed.{row_at, put, rises}
use Rattle.mt_skel.specs.Counted.{count}
use Rattle.mt_skel.proofs.KeyedLaws.{row_at-put, row_at-filter, rises-put, passing}
use Rattle.mt_skel.proofs.CountLaws.{length-of-map}
use Rattle.mt_mounts.specs.declared.mount.Mount.{Mount}
use Rattle.mt_mounts.specs.Forest.{id_of}
use Rattle.mt_mounts.specs.ForestView.{without_id}
use Rattle.mt_mounts.specs.Slots.{by_id, slab_mounts}

-- two options with the same values are equal
pub same_options : {X : Type 0} (a b : Option X) → ((x : X) → a ≡ Some x → b ≡ Some x) → ((x : X) → b ≡ Some x → a ≡ Some x) → a ≡ b
same_options None None f g = refl
same_options None (Some y) f g = g y refl
same_options (Some x) b f g = sym (f x refl)

-- an option without a value
pub none_found : {X : Type 0} (o : Option X) → ((x : X) → o ≡ Some x → ⊥) → o ≡ None
none_found None f = refl
none_found (Some x) f = absurd (f x refl)

-- what an option has was made of what another has
pub mapped : {A B : Type 0} (f : A → B) (o : Option A) (y : B) → option_map f o ≡ Some y → (x : A) × (o ≡ Some x) × (f x ≡ y)
mapped f None y e = absurd (let v : None ≡ Some y = e in cc)
mapped f (Some x) y e = (x, refl, let v : Some (f x) ≡ Some y = e in cc)

-- the row that is put, and the other rows
pub row_put_here : (rows : List Mount) (m : Mount) (q : ℕ) → m.id ≡ q → row_at id_of q (put id_of m rows) ≡ Some m
row_put_here rows m q e = row_at-put id_of q m rows ∙ ap (λ b. cond b (Some m) (row_at id_of q rows)) (eq-eqb q m.id (sym e))

pub row_put_later : (rows : List Mount) (m : Mount) (q : ℕ) → m.id ≢ q → row_at id_of q (put id_of m rows) ≡ row_at id_of q rows
row_put_later rows m q ne = row_at-put id_of q m rows ∙ ap (λ b. cond b (Some m) (row_at id_of q rows)) (ne_eqb q m.id (λ e. ne (sym e)))

-- a row where those of one ID were taken away
pub row_kept : (ms : List Mount) (i q : ℕ) (x : Mount) (r : rises id_of ms ≡ true) → row_at id_of q (without_id i ms) ≡ Some x → (row_at id_of q ms ≡ Some x) × (x.id ≢ i)
row_kept ms i q x r e = go (row_at id_of q ms) (sym (row_at-filter id_of (λ m. not (eqb m.id i)) q ms r) ∙ e)
  where
    go : (o : Option Mount) → passing (λ m. not (eqb m.id i)) o ≡ Some x → (o ≡ Some x) × (x.id ≢ i)
    go None h = absurd (let v : None ≡ Some x = h in cc)
    go (Some y) h =
        let c = cond_some (not (eqb y.id i)) y x h in
        (ap (λ z. Some z) c.1, λ s. false≢true (sym (ap not (eq-eqb y.id i (ap (λ m. m.id) c.1 ∙ s))) ∙ c.0))

-- the rows rise
rises_by_id : (slots : List (Option Mount)) → rises id_of (by_id slots) ≡ true
rises_by_id [] = refl
rises_by_id (None ∷ slots) = rises_by_id slots
rises_by_id (Some m ∷ slots) = rises-put id_of m (by_id slots) (rises_by_id slots)

pub rises_table : (s : Slab Mount) → rises id_of (slab_mounts s) ≡ true
unfolding slab_mounts
rises_table s = rises_by_id s.slots

-- the mount in a slot, and that no two slots have mounts of one ID
abbrev pub in_slot : List (Option Mount) → ℕ → Option Mount
in_slot slots key = slice_index_or slots key None

abbrev pub AreApart : List (Option Mount) → Type 0
AreApart slots = (i j : ℕ) (a b : Mount) → in_slot slots i ≡ Some a → in_slot slots j ≡ Some b → a.id ≡ b.id → i ≡ j

apart_rest : (o : Option Mount) (slots : List (Option Mount)) → AreApart (o ∷ slots) → AreApart slots
apart_rest o slots apart i j a b ga gb e = omega (arith, apart (suc i) (suc j) a b ga gb e)

-- a row is the mount of a slot, and the mount of a slot is a row
pub slot_of_row : (slots : List (Option Mount)) (q : ℕ) (m : Mount) → row_at id_of q (by_id slots) ≡ Some m → (key : ℕ) × (in_slot slots key ≡ Some m) × (m.id ≡ q)
slot_of_row [] q m e = absurd (cc)
slot_of_row (None ∷ slots) q m e = let f = slot_of_row slots q m e in (suc f.0, f.1, f.2)
slot_of_row (Some a ∷ slots) q m e = elim (cases_eq a.id q) [
  | inl same ↦
      let v : Some a ≡ Some m = sym (row_put_here (by_id slots) a q same) ∙ e in
      (zero, v, ap (λ (x : Mount). x.id) (sym (same_Some a m v)) ∙ same)
  | inr off ↦ let f = slot_of_row slots q m (sym (row_put_later (by_id slots) a q off) ∙ e) in (suc f.0, f.1, f.2)
]

pub row_of_slot : (slots : List (Option Mount)) → AreApart slots → (key : ℕ) (m : Mount) → in_slot slots key ≡ Some m → row_at id_of m.id (by_id slots) ≡ Some m
row_of_slot [] apart key m e = absurd (let v : None ≡ Some m = e in cc)
row_of_slot (None ∷ slots) apart zero m e = absurd (let v : None ≡ Some m = e in cc)
row_of_slot (None ∷ slots) apart (suc key) m e = row_of_slot slots (apart_rest None slots apart) key m e
row_of_slot (Some a ∷ slots) apart zero m e = row_put_here (by_id slots) a m.id (ap (λ (x : Mount). x.id) (same_Some a m e)) ∙ e
row_of_slot (Some a ∷ slots) apart (suc key) m e =
    row_put_later (by_id slots) a m.id (λ s. let z : zero ≡ suc key = apart zero (suc key) a m refl e s in absurd (omega (arith, z)))
    ∙ row_of_slot slots (apart_rest (Some a) slots apart) key m e

-- the mounts of these entries, in the order of the slab
abbrev pub vals : List (ℕ × Mount) → List Mount
vals es = map (λ e. e.1) es

-- as many of them pass a test as of the rows
count_put : (t : Mount → Bool) (m : Mount) (rows : List Mount) → row_at id_of m.id rows ≡ None → count t (put id_of m rows) ≡ cond (t m) (suc (count t rows)) (count t rows)
count_put t m [] e = refl
count_put t m (x ∷ xs) e = let ih = count_put t m xs in grind (arith, nat_tests)

pub count_slots : (t : Mount → Bool) (first : ℕ) (slots : List (Option Mount)) → AreApart slots → count t (by_id slots) ≡ count t (vals (entries_from first slots))
count_slots t first [] apart = refl
count_slots t first (None ∷ slots) apart = count_slots t (first + 1) slots (apart_rest None slots apart)
count_slots t first (Some m ∷ slots) apart =
    count_put t m (by_id slots) (none_found _ (λ x e.
    let f = slot_of_row slots m.id x e in
    let z : zero ≡ suc f.0 = apart zero (suc f.0) m x refl f.1 (sym f.2) in
    absurd (omega (arith, z))))
    ∙ ap (λ n. cond (t m) (suc n) n) (count_slots t (first + 1) slots (apart_rest (Some m) slots apart))

count_all : (ms : List Mount) → count (λ m. true) ms ≡ length ms
count_all [] = refl
count_all (m ∷ ms) = ap suc (count_all ms)

-- a table has as many mounts as its slab, where no two slots have mounts of one ID
pub length_table : (s : Slab Mount) → AreApart s.slots → length (slab_mounts s) ≡ slab_len s
unfolding slab_mounts
length_table s apart =
    sym (count_all (by_id s.slots)) ∙ count_slots (λ m. true) 0 s.slots apart ∙ count_all (vals (entries s)) ∙ length-of-map (λ e. e.1) (entries s) ∙ length-entries s
