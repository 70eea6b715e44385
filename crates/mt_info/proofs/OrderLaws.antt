-- The numbers of trees put one after the other.
use Rattle.std.proofs.Common.{◌≡◌, ℕ, ◌≤◌, Bool, true, false, cond, ◌&&◌, ◌||◌, List, [], ◌∷◌, ◌++◌, length, drop, append-nil, refl, sym, ap, ◌∙◌}
use Rattle.std.specs.Prelude.{nat_eq}
use Rattle.std.specs.List.{list_any, flat_map}
use Rattle.std.proofs.lemmas.List.{drop_all}
use Rattle.std.proofs.lemmas.List.Folds.{list_any-append}
use Rattle.mt_skel.specs.Keyed.{among}

-- a number is in one of the lists that were put together
among-each : (t : ℕ → Bool) (f : ℕ → List ℕ) (ids : List ℕ) (j : ℕ) → among (flat_map (λ i. cond (t i) (f i) []) ids) j ≡ list_any (λ i. t i && among (f i) j) ids
among-each t f [] j = refl
among-each t f (i ∷ ids) j = list_any-append (λ k. nat_eq k j) (cond (t i) (f i) []) (flat_map (λ i. cond (t i) (f i) []) ids) ∙ (λ k. here (t i) k || among-each t f ids j k)
  where
    here : (b : Bool) → among (cond b (f i) []) j ≡ (b && among (f i) j)
    here true = refl
    here false = refl

-- all numbers of a list were gone over, and the lists of those that pass put after it
pub among-all : (t : ℕ → Bool) (f : ℕ → List ℕ) (ids rows : List ℕ) (k : ℕ) → length ids ≤ k
    → rows ++ flat_map (λ i. cond (t i) (f i) []) (drop k ids) ≡ ids ++ flat_map (λ i. cond (t i) (f i) []) ids → (j : ℕ) → among rows j ≡ (among ids j || list_any (λ i. t i && among (f i) j) ids)
among-all t f ids rows k l e j =
    let whole : rows ≡ ids ++ flat_map (λ i. cond (t i) (f i) []) ids =
    sym (append-nil rows) ∙ ap (λ xs. rows ++ flat_map (λ i. cond (t i) (f i) []) xs) (sym (drop_all k ids l)) ∙ e in
    ap (λ l. among l j) whole ∙ list_any-append (λ k. nat_eq k j) ids (flat_map (λ i. cond (t i) (f i) []) ids) ∙ ap (λ b. among ids j || b) (among-each t f ids j)
