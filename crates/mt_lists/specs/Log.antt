-- What contracts see of a `Log`, and what its IDs say about two look-ups. A word with no source is
-- this project's rule.
use Rattle.std.specs.Prelude.{◌≡◌, ℕ, false, List, [], ◌∷◌}
use Rattle.mt_skel.specs.Keyed.{among}

-- the IDs that were noted, and how many more can be noted without more memory
pub record LogView : Type 0 where
  pub ids : List ℕ
  pub room : ℕ

-- two look-ups answer alike for each ID that is not among these
abbrev pub AreAlikeBut : {A : Type 0} → List ℕ → (ℕ → A) → (ℕ → A) → Type 0
AreAlikeBut ids f g = (i : ℕ) → among ids i ≡ false → f i ≡ g i

-- what is read of an earlier value
abbrev pub earlier : {A B : Type 0} → List (A × Unit {0}) → (A → List B) → List B
earlier [] read = []
earlier (x ∷ xs) read = read x.0
