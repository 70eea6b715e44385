-- Tables of which nothing is made.
-- A word with no source is this project's rule.
use Rattle.std.specs.Prelude.{◌≡◌, ℕ, suc, List, [], ◌∷◌}
use Rattle.mt_import.specs.declared.space.Space.{Space}

-- a table of a number has no mounts, and no namespace
pub record IsUnmade (table : ℕ) (of : Space) : Type 0 where
  pub placed : of.tree.table ≡ table
  pub made : of.original ≡ 1
  pub numbered : of.number ≡ 1
  pub ways : of.ways.items ≡ []
  pub mounts : of.tree.mounts ≡ []

-- so do all tables from a number on
abbrev pub AreUnmade : ℕ → List Space → Type 0
AreUnmade table [] = Unit {0}
AreUnmade table (of ∷ others) = IsUnmade table of × AreUnmade (suc table) others
