use Rattle.std.proofs.Common.{◌≡◌, ◌&&◌, Bool, true, false, ℕ, List, not, refl, sym, ap, ◌∙◌, subst}
use Rattle.std.specs.List.{filter}
use Rattle.mt_skel.specs.Keyed.{among}
use Rattle.mt_mounts.specs.Forest.{parents_up}
use Rattle.mt_propagate.specs.World.{world_view}
use Rattle.mt_unmount.specs.Detaching.{is_detached, is_free, goes_up, is_taken}
use Rattle.mt_unmount.proofs.FoundLaws.{among-filter}
use Rattle.mt_unmount.proofs.GoingLaws.{taken-detached}
use Rattle.mt_unmount.proofs.detaching.gone.Goals as goal

-- of those that may go, the ones that do not stay go
left : (may goes : Bool) → (goes ≡ true → may ≡ true) → (may && not (may && not goes)) ≡ goes
left true true f = refl
left true false f = refl
left false true f = f refl
left false false f = refl

pub returns-clause-gone : goal.returns-clause-gone
returns-clause-gone c =
    let w = world_view c.args.world.now in
    let i = c.args.id in
    let may : among c.in_ok-loose.loose ≡ is_detached w i = λ t. λ j. c.in_ok-loose.ensures.loose.each j t in
    let free : (λ (j : ℕ). not (among c.in_ok-bound.bound j)) ≡ is_free w i = λ t. λ j. c.in_ok-bound.ensures.bound j t in
    let goes : ℕ → Bool = λ j. goes_up (among c.in_ok-loose.loose) (λ k. not (among c.in_ok-bound.bound k)) (parents_up w.forest j) in
    let same : (j : ℕ) → goes j ≡ is_taken w i j = λ j. λ t. goes_up (may t) (free t) (parents_up w.forest j) in
    record {
      rising = c.without.ensures.rising;
      each = λ j. c.without.ensures.same j
          ∙ ap (λ b. among c.in_ok-loose.loose j && not b) (c.new-staying.ensures.same j ∙ ap (λ (l : List ℕ). among l j) c.in_ok-staying.ensures.staying ∙ among-filter (λ k. not (goes k)) c.in_ok-loose.loose j)
          ∙ (λ t. may t j && not (may t j && not (same j t)))
          ∙ left (is_detached w i j) (is_taken w i j) (taken-detached w c.requires.well_formed i j);
    }
