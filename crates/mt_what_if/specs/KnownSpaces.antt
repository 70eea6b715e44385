-- Namespaces, and what people call them.
-- A word with no source is this project's rule.
use Rattle.std.specs.Prelude.{ℕ, Bool, not, ◌&&◌, List}

-- a namespace by its number and its name: whether a line names it, and whether a line makes it
pub record TitledSpace : Type 0 where
  pub number : ℕ
  pub name : List ℕ
  pub is_named : Bool
  pub is_new : Bool

-- it was there before, and no line names it
abbrev pub is_unnamed : TitledSpace → Bool
is_unnamed s = not s.is_named && not s.is_new
