-- The mounts that stay, as a list.
use Rattle.std.proofs.Common.{◌≡◌, ℕ, suc, ◌+◌, ◌<◌, ◌≤◌, length, drop, get_or, arith, Bool, true, false, cond, not, ◌||◌, eqb, eqb-true, eq-eqb, List, [], ◌∷◌, refl, sym, ap, ◌∙◌, drop-cons}
use Rattle.std.specs.List.{filter}
use Rattle.std.proofs.lemmas.List.{drop_all}
use Rattle.mt_mounts.specs.declared.mount.Mount.{Mount}
use Rattle.mt_mounts.specs.ForestView.{without_id}
use Rattle.mt_skel.specs.Keyed.{among}
use Rattle.mt_propagate.specs.Carried.{staying}

pub filter-all : {X : Type 0} (xs : List X) → filter (λ (x : X). true) xs ≡ xs
filter-all [] = refl
filter-all (x ∷ xs) = ap (λ l. x ∷ l) (filter-all xs)

-- without one of them, and then without the others
staying-one : (i : ℕ) (ids : List ℕ) (ms : List Mount) → staying ids (without_id i ms) ≡ staying (i ∷ ids) ms
staying-one i ids [] = refl
staying-one i ids (m ∷ ms) = go (eqb m.id i) (eqb i m.id) refl refl (staying-one i ids ms)
  where
    go : (a b : Bool) → eqb m.id i ≡ a → eqb i m.id ≡ b → staying ids (without_id i ms) ≡ staying (i ∷ ids) ms
        → staying ids (cond (not a) (m ∷ without_id i ms) (without_id i ms)) ≡ cond (not (b || among ids m.id)) (m ∷ staying (i ∷ ids) ms) (staying (i ∷ ids) ms)
    go true true ea eb ih = ih
    go true false ea eb ih = absurd (let v : true ≡ false = sym (eq-eqb i m.id (sym (eqb-true m.id i ea))) ∙ eb in cc)
    go false true ea eb ih = absurd (let v : true ≡ false = sym (eq-eqb m.id i (sym (eqb-true i m.id eb))) ∙ ea in cc)
    go false false ea eb ih = ap (λ l. cond (not (among ids m.id)) (m ∷ l) l) ih

-- one after the other
pub staying-step : (ids : List ℕ) (k d : ℕ) (ms ns all : List Mount) → k < length ids → staying (drop k ids) ms ≡ all → ns ≡ without_id (get_or ids k d) ms → staying (drop (k + 1) ids) ns ≡ all
staying-step ids k d ms ns all l e is =
    ap (λ n. staying (drop n ids) ns) (let more : k + 1 ≡ suc k = omega arith in more)
    ∙ ap (staying (drop (suc k) ids)) is ∙ staying-one (get_or ids k d) (drop (suc k) ids) ms ∙ ap (λ js. staying js ms) (sym (drop-cons ids k d l)) ∙ e

pub staying-end : (ids : List ℕ) (k : ℕ) (ms all : List Mount) → length ids ≤ k → staying (drop k ids) ms ≡ all → ms ≡ all
staying-end ids k ms all l e = sym (ap (λ js. staying js ms) (drop_all k ids l) ∙ filter-all ms) ∙ e
