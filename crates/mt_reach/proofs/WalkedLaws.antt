-- Walks of paths, step by step.
use Rattle.std.proofs.Common.{◌≡◌, ℕ, suc, ◌+◌, ◌-◌, ◌≤◌, ◌<◌, true, false, cond, List, [], ◌∷◌, ◌++◌, length, get_or, drop, Option, Some, None, sym, ap, ◌∙◌, arith}
use Rattle.std.proofs.Math.Seq.{drop-cons}
use Rattle.mt_skel.specs.Chain.{follow}
use Rattle.mt_skel.proofs.ChainLaws.{follow-stop, follow-step}
use Rattle.mt_reach.specs.declared.row.SeenDirectory.{SeenDirectory}
use Rattle.mt_reach.specs.declared.row.SeenRow.{SeenRow}
use Rattle.mt_reach.specs.Sight.{FrontView, has_copy, front_from}
use Rattle.mt_reach.specs.Walking.{stack_top, walked_from}

module _ {X : Type 0} (next : X → Option X) (most : ℕ) (start : X) where
  -- after so many steps: those that are left lead where all of them lead
  pub record IsClimbing (count : ℕ) (here : X) : Type 0 where
    pub within : count ≤ most
    pub left : follow next (most - count) here ≡ follow next most start

  pub begun_climbing : (here : X) → here ≡ start → IsClimbing 0 here
  begun_climbing here e = let same : most - 0 ≡ most = omega arith in record { within = omega arith; left = (λ k. follow next (same k) (e k)) }

  module _ (count : ℕ) (here : X) (w : IsClimbing count here) where
    pub climbed : next here ≡ None → here ≡ follow next most start
    climbed none = sym (follow-stop next (most - count) here none) ∙ w.left

    pub climbed_all : most ≤ count → here ≡ follow next most start
    climbed_all l = let none : most - count ≡ 0 = omega arith in ap (λ k. follow next k here) (sym none) ∙ w.left

    pub climb_step : (above : X) → next here ≡ Some above → count < most → IsClimbing (count + 1) above
    climb_step above is l =
        let s : most - count ≡ suc (most - (count + 1)) = omega arith in
        record {
          within = omega arith;
          left = sym (ap (λ k. follow next k here) s ∙ follow-step next (most - (count + 1)) here above is) ∙ w.left;
        }

-- one name further
pub walked_step : (rows : List SeenRow) (names done more : List (List ℕ)) (i : ℕ) (name d : List ℕ) (q next : SeenRow) → i < length names → name ≡ get_or names i d → more ≡ done ++ name ∷ [] → next ≡ stack_top rows more q
    → walked_from rows next more (drop (i + 1) names) ≡ walked_from rows q done (drop i names)
walked_step rows names done more i name d q next within at longer up =
    let one : suc i ≡ i + 1 = omega arith in
    let split : drop i names ≡ name ∷ drop (i + 1) names = drop-cons names i d within ∙ (λ k. sym at k ∷ drop (one k) names) in
    ap (λ t. walked_from rows t more (drop (i + 1) names)) up ∙ (λ k. walked_from rows (stack_top rows (longer k) q) (longer k) (drop (i + 1) names)) ∙ sym (ap (walked_from rows q done) split)

-- the same where copies stand: a walk goes on from a mount without one
module _ (rows : List SeenRow) (d : SeenDirectory) (ids : List ℕ) where
  front_split : (names done more : List (List ℕ)) (i : ℕ) (name e : List ℕ) (q next : SeenRow) → i < length names → name ≡ get_or names i e → more ≡ done ++ name ∷ [] → next ≡ stack_top rows more q
      → front_from rows d ids q done (drop i names) ≡ cond (has_copy d ids more next) (record { row = next; is_copy = true }) (front_from rows d ids next more (drop (i + 1) names))
  front_split names done more i name e q next within at longer up =
      let one : suc i ≡ i + 1 = omega arith in
      let split : drop i names ≡ name ∷ drop (i + 1) names = drop-cons names i e within ∙ (λ k. sym at k ∷ drop (one k) names) in
      let then : List (List ℕ) → SeenRow → FrontView = λ m t. cond (has_copy d ids m t) (record { row = t; is_copy = true }) (front_from rows d ids t m (drop (i + 1) names)) in
      ap (front_from rows d ids q done) split ∙ (λ k. then (sym longer k) (stack_top rows (sym longer k) q)) ∙ ap (then more) (sym up)

  pub front_step : (names done more : List (List ℕ)) (i : ℕ) (name e : List ℕ) (q next : SeenRow) → i < length names → name ≡ get_or names i e → more ≡ done ++ name ∷ [] → next ≡ stack_top rows more q
      → has_copy d ids more next ≡ false → front_from rows d ids next more (drop (i + 1) names) ≡ front_from rows d ids q done (drop i names)
  front_step names done more i name e q next within at longer up off =
      sym (front_split names done more i name e q next within at longer up ∙ ap (λ b. cond b (record { row = next; is_copy = true }) (front_from rows d ids next more (drop (i + 1) names))) off)

  pub front_met : (names done more : List (List ℕ)) (i : ℕ) (name e : List ℕ) (q next : SeenRow) → i < length names → name ≡ get_or names i e → more ≡ done ++ name ∷ [] → next ≡ stack_top rows more q
      → has_copy d ids more next ≡ true → record { row = next; is_copy = true } ≡ front_from rows d ids q done (drop i names)
  front_met names done more i name e q next within at longer up on =
      sym (front_split names done more i name e q next within at longer up ∙ ap (λ b. cond b (record { row = next; is_copy = true }) (front_from rows d ids next more (drop (i + 1) names))) on)
