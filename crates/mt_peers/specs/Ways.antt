-- Ways up a chain, on which the first number that passes a test is looked for. No public clause cites this module. A
-- word with no source is this project's rule.
use Rattle.std.specs.Prelude.{◌≡◌, ℕ, ◌-◌, Bool, cond, Option, Some, None, nat_lt}
use Rattle.std.specs.List.{find}
use Rattle.std.specs.Option.{option_and_then}
use Rattle.mt_skel.specs.Chain.{chain}

module _ (passes : ℕ → Bool) (next : ℕ → Option ℕ) where
  -- the first that passes, this many steps up at most
  abbrev pub first_within : ℕ → Option ℕ → Option ℕ
  first_within most x = option_and_then (λ g. find passes (chain next most g)) x

  -- none passes before one that is this many steps up
  abbrev pub IsAbove : Option ℕ → Option ℕ → ℕ → Type 0
  IsAbove x up steps = (k : ℕ) → first_within k x ≡ cond (nat_lt k steps) None (first_within (k - steps) up)

-- a number, if it passes
abbrev pub if_passes : (ℕ → Bool) → Option ℕ → Option ℕ
if_passes passes x = option_and_then (λ g. cond (passes g) (Some g) None) x
