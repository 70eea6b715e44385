-- Numbers that rise, as they are gone through. No public clause but that of `is_above` cites this module.
-- A word with no source is this project's rule.
use Rattle.std.specs.Prelude.{ℕ, Bool, true, ◌&&◌, nat_lt, Option, Some, None, List}
use Rattle.std.specs.List.{list_all}
use Rattle.mt_skel.specs.Keyed.{rises}

-- a number is above the last one, if there was one
abbrev pub is_above : Option ℕ → ℕ → Bool
is_above None k = true
is_above (Some j) k = nat_lt j k

-- the keys strictly rise, all of them above the last one, if there was one
abbrev pub rises_after : {X : Type 0} → (X → ℕ) → Option ℕ → List X → Bool
rises_after key None xs = rises key xs
rises_after key (Some k) xs = list_all (λ x. nat_lt k (key x)) xs && rises key xs
