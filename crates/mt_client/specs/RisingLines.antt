-- Lines by rising ID, each of one thing that has an ID, as a row, or what is locked of a mount.
--     key      the ID of a thing
--     text     its line
--     IsSuch   what a thing is of which there may be a line
-- A word with no source is this project's rule.
use Rattle.std.specs.Prelude.{◌≡◌, ℕ, true, List, [], ◌∷◌, map, length, Option, IsTrue}
use Rattle.std.specs.List.{AllByRecursion}
use Rattle.mt_skel.specs.Keyed.{rises}
use Rattle.mt_skel.specs.Rising.{is_above}

module _ {X : Type 0} (key : X → ℕ) (text : X → List ℕ) (IsSuch : X → Type 0) where
  -- the line of one with an ID above the last one, if there was one
  abbrev pub IsLineAbove : Option ℕ → List (List ℕ) → Type 0
  IsLineAbove last lines = (x : X) × IsSuch x × (is_above last (key x) ≡ true) × (lines ≡ text x ∷ [])

  -- the line of the one of this ID, which is above the last one, if there was one
  abbrev pub IsLineOf : Option ℕ → ℕ → List (List ℕ) → Type 0
  IsLineOf last id lines = (x : X) × IsSuch x × (is_above last (key x) ≡ true) × (key x ≡ id) × (lines ≡ text x ∷ [])

  -- the lines of so many, by rising ID
  pub record AreRisingLines (count : ℕ) (lines : List (List ℕ)) : Type 0 where
    pub rows : List X
    pub valid : AllByRecursion IsSuch rows
    pub rising : IsTrue (rises key rows)
    pub many : length rows ≡ count
    pub all : lines ≡ map text rows
