-- The lines of a list of bytes, as a reader with a limit serves them.
-- A word with no source is this project's rule.
use Rattle.std.specs.Prelude.{◌≢◌, ℕ, ◌+◌, nat_le, ◌==◌, if◌then◌else◌, List, [], ◌∷◌, length}

-- what a reader with a limit makes of the bytes up to a line end, or after the last one
pub data Item : Type 0 where
  -- a line of at most the limit: its bytes, without the line end
  Text : List ℕ → Item
  -- a line over the limit
  TooLong : Item
  -- bytes after the last line end, at most the limit
  Unended : Item
  -- a line so far over the limit that the reading ends there
  Endless : Item

-- the byte that ends a line
abbrev pub line_end : ℕ
line_end = 10

-- for how many bytes past the limit a line end is looked for, by this project's rule
abbrev pub slack : ℕ
slack = 1048576

-- the pieces with one byte more before the first
abbrev pub cons_first : ℕ → List (List ℕ) → List (List ℕ)
cons_first b [] = (b ∷ []) ∷ []
cons_first b (p ∷ ps) = (b ∷ p) ∷ ps

-- the pieces between the line ends, one more than there are line ends
abbrev pub between_line_ends : List ℕ → List (List ℕ)
between_line_ends [] = [] ∷ []
between_line_ends (b ∷ bs) = if b == line_end then [] ∷ between_line_ends bs else cons_first b (between_line_ends bs)

-- what a line of n bytes is, given what a short one is: that, TooLong over the limit, or Endless
-- more than the slack over the limit
abbrev pub by_length : ℕ → ℕ → Item → Item
by_length limit n short = if nat_le n limit then short else (if nat_le n (limit + slack) then TooLong else Endless)

-- what the bytes after the last line end are: nothing if there are none, and by this project's
-- rule TooLong, not Unended, over the limit
abbrev pub last_items : ℕ → List ℕ → List Item
last_items limit [] = []
last_items limit (b ∷ bs) = by_length limit (length (b ∷ bs)) Unended ∷ []

-- what the pieces are, the last of which has no line end
abbrev pub items : ℕ → List (List ℕ) → List Item
items limit [] = []
items limit (p ∷ []) = last_items limit p
items limit (p ∷ q ∷ ps) = by_length limit (length p) (Text p) ∷ items limit (q ∷ ps)

-- the lines of the bytes, as a reader with this limit serves them
unfoldable pub lines_of : ℕ → List ℕ → List Item
lines_of limit bytes = items limit (between_line_ends bytes)

-- no byte of the list is a line end
abbrev pub Unbroken : List ℕ → Type 0
Unbroken [] = Unit {0}
Unbroken (b ∷ bs) = (b ≢ line_end) × Unbroken bs
