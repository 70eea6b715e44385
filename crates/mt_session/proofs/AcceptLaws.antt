-- Rounds of a server, one after another.
use Rattle.std.proofs.Common.{◌≡◌, ℕ, ◌+◌, ◌<◌, ◌≤◌, ◌++◌, ◌↔◌, Bool, List, ◌∷◌, replicate, false, arith, suc, ap, ◌∙◌}
use Rattle.mt_session.specs.Accepting.{is_over, most_failures}
use Rattle.mt_session.specs.declared.accepting.Round.{Round}
use Rattle.mt_session.specs.declared.accepting.Round.TheVariants.{GivesUp}

-- a round that does not give up has not seen as many failures as end a server
pub still_below : (round : Round) (failures : ℕ) → (round ≡ GivesUp → ⊥) → (round ≡ GivesUp) ↔ (failures ≡ most_failures) → failures ≤ most_failures → failures < 1000
still_below round failures goes gives within =
    let other : failures ≡ most_failures → ⊥ = λ e. goes (gives.1 e) in
    omega (arith, within, other)

-- one more look that said no
pub looked_again : (n : ℕ) (round : Round) (looks was now : List Bool) → is_over round ≡ false → was ≡ replicate n false ++ looks → now ≡ is_over round ∷ was → now ≡ replicate (n + 1) false ++ looks
looked_again n round looks was now said e l =
    let first : now ≡ false ∷ replicate n false ++ looks = l ∙ (λ k. said k ∷ e k) in
    let next : suc n ≡ n + 1 = omega arith in
    first ∙ ap (λ m. replicate m false ++ looks) next
