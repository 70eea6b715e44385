-- A round over things that wait: which wait still, and that none was done where all do.
use Rattle.std.proofs.Common.{◌≡◌, ℕ, ◌+◌, ◌<◌, ◌≤◌, Bool, true, false, cond, ◌||◌, nat_eq, eqb-true, List, [], ◌∷◌, ◌++◌, length, length-append, drop, get_or, slice_get, Option, Some, refl, sym, ap, subst, ◌∙◌, arith, append-nil}
use Rattle.std.proofs.lemmas.List.{drop_more}
use Rattle.std.proofs.lemmas.List.Folds.{list_any-append}
use Rattle.mt_skel.specs.Keyed.{among}
use Rattle.mt_world.specs.declared.misfit.Misfit.{Misfit}
use Rattle.mt_world.specs.declared.row.TableRow.{TableRow}
use Rattle.mt_world.specs.Kept.{waits_for_parent, IsParentless}

-- a thing of a list stays among more of it
moved : (a b c : Bool) → (a || (b || c)) ≡ true → ((a || (b || false)) || c) ≡ true
moved true b c e = refl
moved false true c e = refl
moved false false c e = e

passed : (a b c : Bool) → b ≡ false → (a || (b || c)) ≡ true → (a || c) ≡ true
passed true b c f e = refl
passed false true c f e = absurd (cc)
passed false false c f e = e

either : (a b : Bool) → (a || (b || false)) ≡ true → (a ≡ false → b ≡ true)
either true b e f = absurd (cc)
either false true e f = refl
either false false e f = e

module _ (rows : List TableRow) (old new : List (Option Misfit)) (later ws : List ℕ) (i n d : ℕ) (within : i < length ws) (here : n ≡ get_or ws i d) where
  rest : drop i ws ≡ n ∷ drop (i + 1) ws
  rest = drop_more ws i d within ∙ ap (λ x. x ∷ drop (i + 1) ws) (sym here)

  pub still_waiting : (flag : Bool) → ((k : ℕ) → waits_for_parent old k → (among later k || among (drop i ws) k) ≡ true) → ((k : ℕ) → waits_for_parent new k → waits_for_parent old k) → (flag ≡ false → waits_for_parent new n → ⊥)
      → (k : ℕ) → waits_for_parent new k → (among (later ++ cond flag (n ∷ []) []) k || among (drop (i + 1) ws) k) ≡ true
  still_waiting true all others done k e =
      ap (λ b. b || among (drop (i + 1) ws) k) (list_any-append (λ j. nat_eq j k) later (n ∷ []))
      ∙ moved (among later k) (nat_eq n k) (among (drop (i + 1) ws) k) (ap (λ l. among later k || among l k) (sym rest) ∙ all k (others k e))
  still_waiting false all others done k e =
      ap (λ l. among l k || among (drop (i + 1) ws) k) (append-nil later)
      ∙ passed (among later k) (nat_eq n k) (among (drop (i + 1) ws) k) (off (nat_eq n k) refl) (ap (λ l. among later k || among l k) (sym rest) ∙ all k (others k e))
    where
      off : (b : Bool) → nat_eq n k ≡ b → b ≡ false
      off true t = absurd (done refl (subst (waits_for_parent new) (sym (eqb-true n k t)) e))
      off false t = refl

  pub no_more : (flag : Bool) → length later ≤ i → length (later ++ cond flag (n ∷ []) []) ≤ i + 1
  no_more true l = omega (arith, l, length-append later (n ∷ []))
  no_more false l = omega (arith, l, ap length (append-nil later))

  pub still_parentless : (flag : Bool) → length later ≤ i → (i ≤ length later → (k : ℕ) (r : TableRow) → among later k ≡ true → slice_get rows k ≡ Some r → IsParentless rows old r)
      → (flag ≡ true → new ≡ old) → (flag ≡ true → (r : TableRow) → slice_get rows n ≡ Some r → IsParentless rows old r)
      → i + 1 ≤ length (later ++ cond flag (n ∷ []) []) → (k : ℕ) (r : TableRow) → among (later ++ cond flag (n ∷ []) []) k ≡ true → slice_get rows k ≡ Some r → IsParentless rows new r
  still_parentless true few all same one l k r m e = subst (λ left. IsParentless rows left r) (sym (same refl)) (go (among later k) refl)
    where
      go : (b : Bool) → among later k ≡ b → IsParentless rows old r
      go true t = all (omega (arith, l, length-append later (n ∷ []))) k r t e
      go false t =
          let found = either (among later k) (nat_eq n k) (sym (list_any-append (λ j. nat_eq j k) later (n ∷ [])) ∙ m) t in
          one refl r (ap (λ j. slice_get rows j) (eqb-true n k found) ∙ e)
  still_parentless false few all same one l k r m e = absurd (omega (arith, l, few, ap length (append-nil later)))
