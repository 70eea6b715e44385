-- The words `top` and `is_below`, step by step.
use Rattle.std.proofs.Common.{◌≡◌, ◌≢◌, ℕ, zero, suc, ◌+◌, ◌-◌, ◌<◌, Bool, true, false, ◌||◌, eqb, eq-eqb, List, [], Option, Some, None, sym, ap, ◌∙◌, arith}
use Rattle.std.specs.List.{list_any}
use Rattle.std.specs.Option.{option_map, option_map_or}
use Rattle.std.proofs.lemmas.Bool.{ne_eqb}
use Rattle.std.proofs.lemmas.Bool.Decides.{nat_tests}
use Rattle.mt_skel.specs.Chain.{chain, follow}
use Rattle.mt_skel.proofs.ChainLaws.{chain-last, follow-stop, follow-step}
use Rattle.mt_mounts.specs.declared.mount.Place.{Place}
use Rattle.mt_mounts.specs.declared.mount.Mount.{Mount}
use Rattle.mt_mounts.specs.Forest.{on, parent, root_place}

abbrev pub stacked : List Mount → Place → Option Place
stacked ms q = option_map root_place (on ms q)

-- the place that this many steps lead to
abbrev pub top_within : List Mount → ℕ → Place → Place
top_within ms n p = follow (stacked ms) n p

-- `top` ends at a free place, and otherwise goes on from the root of the mount that stands there
pub top_stop : (ms : List Mount) (n : ℕ) (p : Place) → stacked ms p ≡ None → top_within ms n p ≡ p
top_stop ms n p e = follow-stop (stacked ms) n p e

pub top_step : (ms : List Mount) (n : ℕ) (p q : Place) → stacked ms p ≡ Some q → top_within ms (suc n) p ≡ top_within ms n q
top_step ms n p q e = follow-step (stacked ms) n p q e

-- whether this many steps from j meet i
abbrev pub below_within : List Mount → ℕ → ℕ → ℕ → Bool
below_within ms i n j = list_any (λ k. eqb i k) (chain (parent ms) n j)

-- `is_below` ends at i and at a mount without a parent, and otherwise goes on from the parent
pub below_here : (ms : List Mount) (i n j : ℕ) → j ≡ i → below_within ms i n j ≡ true
below_here ms i zero j e = let s = eq-eqb i j (sym e) in grind (arith, nat_tests)
below_here ms i (suc n) j e = let s = eq-eqb i j (sym e) in grind (arith, nat_tests)

pub below_stop : (ms : List Mount) (i n j : ℕ) → parent ms j ≡ None → below_within ms i n j ≡ (eqb i j || false)
below_stop ms i n j e = ap (list_any (λ k. eqb i k)) (chain-last (parent ms) n j e)

pub below_step : (ms : List Mount) (i n j p : ℕ) → j ≢ i → parent ms j ≡ Some p → below_within ms i (suc n) j ≡ below_within ms i n p
below_step ms i n j p ne e =
    ap (λ o. eqb i j || list_any (λ k. eqb i k) (option_map_or (λ y. chain (parent ms) n y) o [])) e
    ∙ ap (λ b. b || below_within ms i n p) (ne_eqb i j (λ s. ne (sym s)))

-- the fuel before a step
pub fuel_step : (n i : ℕ) → i < n → n - i ≡ suc (n - (i + 1))
fuel_step n i l = omega arith
