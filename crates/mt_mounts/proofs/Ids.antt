-- The IDs of a forest, sorted, are those of its rows, and its mounts, sorted, are its rows.
use Rattle.std.proofs.Common.{◌≡◌, ℕ, ◌+◌, ◌<◌, cond, ◌==◌, eqb, true, false, List, [], ◌∷◌, map, Option, Some, None, refl, sym, ap, subst, ◌∙◌, inl, inr, arith, length, Contains, IsPermutation}
use Rattle.std.specs.List.Sorted.{IsSorted, IsSortedByKey}
use Rattle.std.specs.Ordering.{nat_cmp, is_lt}
use Rattle.std.specs.Option.{option_map}
use Rattle.std.proofs.lemmas.List.Sorted.{Contains-permutation, IsPermutation-sym, IsPermutation-map}
use Rattle.std.proofs.lemmas.List.{get_or-map, length-map}
use Rattle.std.proofs.lemmas.Map.Made.{Contains-from_values_of}
use Rattle.slab.specs.Slab.{Slab, entries}
use Rattle.slab.proofs.SlabLemmas.{Contains-cons, Contains-entries}
use Rattle.mt_skel.specs.Keyed.{row_at, rises}
use Rattle.mt_skel.specs.Counted.{occ}
use Rattle.mt_skel.proofs.CountLaws.{count-map}
use Rattle.mt_skel.proofs.ElementLaws.{In, row_in}
use Rattle.mt_skel.proofs.KeyedLaws.{row_at-key, same_rows}
use Rattle.mt_skel.proofs.SortedLaws.{sorted-is, rises-keys}
use Rattle.mt_mounts.specs.declared.mount.Mount.{Mount}
use Rattle.mt_mounts.specs.Forest.{id_of}
use Rattle.mt_mounts.specs.Slots.{by_id, slab_mounts}
use Rattle.mt_mounts.proofs.SlotLaws.{AreApart, vals, rises_table, row_of_slot, count_slots}

-- the IDs of these entries, in the order of the slab
abbrev pub ids_of : List (ℕ × Mount) → List ℕ
ids_of es = map id_of (vals es)

-- sorted, the slab's IDs are the rows'
pub sorted_ids : (s : Slab Mount) (ws vs : List ℕ) → AreApart s.slots → ws ≡ ids_of (entries s) → IsPermutation ws vs → IsSorted nat_cmp vs → vs ≡ map id_of (slab_mounts s)
unfolding slab_mounts
sorted_ids s ws vs apart is p sorted =
    sorted-is ws vs (map id_of (by_id s.slots)) p sorted
    (λ q. ap (occ q) is ∙ count-map (λ j. j == q) id_of (vals (entries s)) ∙ sym (count_slots (λ m. m.id == q) 0 s.slots apart) ∙ sym (count-map (λ j. j == q) id_of (by_id s.slots)))
    (rises-keys id_of (by_id s.slots) ∙ rises_table s)

-- the IDs of mounts that are sorted by these are sorted
sorted_keys : (ms : List Mount) → IsSortedByKey id_of nat_cmp ms → IsSorted nat_cmp (map id_of ms)
sorted_keys [] h = λ k d low l. absurd (omega (arith, l))
sorted_keys (m ∷ ms) h =
    λ k d low l.
    let within : k + 1 < length (m ∷ ms) = omega (arith, l, length-map (m ∷ ms) id_of) in
    let here = get_or-map id_of (m ∷ ms) k m d (omega (arith, within)) in
    let next = get_or-map id_of (m ∷ ms) (k + 1) m d within in
    (λ j. is_lt (nat_cmp (next j) (here j))) ∙ h k m low within

-- a mount whose ID is there is a row
row_of_ids : (ms : List Mount) (q : ℕ) → row_at (λ n. n) q (map id_of ms) ≡ option_map id_of (row_at id_of q ms)
row_of_ids [] q = refl
row_of_ids (m ∷ ms) q = elim (eqb q m.id) as (λ b. cond b (Some m.id) (row_at (λ n. n) q (map id_of ms)) ≡ option_map id_of (cond b (Some m) (row_at id_of q ms))) [ true ↦ refl | false ↦ row_of_ids ms q ]

in_contains : (m : Mount) (ms : List Mount) → In m ms → Contains ms m
in_contains m [] h = absurd h
in_contains m (x ∷ ms) h = elim h [ inl here ↦ (0, omega arith, here) | inr later ↦ Contains-cons _ _ _ (in_contains m ms later) ]

-- sorted, the slab's mounts are the rows
pub sorted_mounts : (s : Slab Mount) (ws vs : List Mount) → AreApart s.slots → ws ≡ vals (entries s) → IsPermutation ws vs → IsSortedByKey id_of nat_cmp vs → vs ≡ slab_mounts s
unfolding slab_mounts
sorted_mounts s ws vs apart is p sorted =
    let ts = by_id s.slots in
    let ids = sorted_ids s (map id_of ws) (map id_of vs) apart (ap (map id_of) is) (IsPermutation-map id_of ws vs p) (sorted_keys vs sorted) in
    same_rows id_of vs ts (sym (rises-keys id_of vs) ∙ ap (rises (λ n. n)) ids ∙ rises-keys id_of ts ∙ rises_table s) (rises_table s) (λ q.
    go (row_at id_of q vs) (row_at id_of q ts) (sym (row_of_ids vs q) ∙ ap (row_at (λ n. n) q) ids ∙ row_of_ids ts q)
    (λ m g.
    let found = Contains-permutation vs ws m (IsPermutation-sym ws vs p) (in_contains m vs (row_in id_of q vs m g)) in
    let key = Contains-from_values_of (entries s) m (subst (λ l. Contains l m) is found) in
    ap (λ j. row_at id_of j ts) (sym (row_at-key id_of q vs m g)) ∙ row_of_slot s.slots apart key.0 m ((Contains-entries s key.0 m).0 key.1)))
  where
    go : (a b : Option Mount) → option_map id_of a ≡ option_map id_of b → ((m : Mount) → a ≡ Some m → b ≡ Some m) → a ≡ b
    go None None e f = refl
    go None (Some y) e f = absurd (cc)
    go (Some x) b e f = sym (f x refl)
