-- What was found of numbers on ways up stays so with one number more.
use Rattle.std.proofs.Common.{◌≡◌, ℕ, Bool, true, false, cond, nat_eq, eqb-true, Option, Some, sym, ap, subst, refl, ◌∙◌}
use Rattle.std.specs.Prelude.{IfSome}
use Rattle.std.specs.declared.hash.FoldHasher.{FoldHasher}
use Rattle.std.specs.declared.hash.BuildHasherDefault.{BuildHasherDefault}
use Rattle.indexmap.specs.IndexMap.{IndexMap, get}
use Rattle.mt_reach.specs.Tree.{leads_up}
use Rattle.mt_reach.specs.Upward.{UpwardView, AreMet}

-- an answer is whether the goal is met
abbrev pub IsAnswer : UpwardView → ℕ → Option Bool → Type 0
IsAnswer v h o = IfSome o (λ met. met ≡ leads_up v.rows v.step v.goal h)

pub found_answers : (v u : UpwardView) (m : IndexMap ℕ Bool (BuildHasherDefault FoldHasher)) (h : ℕ) (o : Option Bool) → AreMet v.rows v.step v.goal m → v ≡ u → get nat_eq m h ≡ o → IsAnswer u h o
found_answers v u m h o all same e = subst (IsAnswer u h) e (subst (λ v. IsAnswer v h (get nat_eq m h)) same (all h))

pub found_more : (v : UpwardView) (m n : IndexMap ℕ Bool (BuildHasherDefault FoldHasher)) (k : ℕ) (met : Bool) → AreMet v.rows v.step v.goal m → met ≡ leads_up v.rows v.step v.goal k
    → ((h : ℕ) → get nat_eq n h ≡ cond (nat_eq k h) (Some met) (get nat_eq m h)) → AreMet v.rows v.step v.goal n
found_more v m n k met all e put h = subst (IsAnswer v h) (sym (put h)) (by (nat_eq k h) refl)
  where
    by : (t : Bool) → nat_eq k h ≡ t → IsAnswer v h (cond t (Some met) (get nat_eq m h))
    by true is = e ∙ ap (leads_up v.rows v.step v.goal) (eqb-true k h is)
    by false is = all h
