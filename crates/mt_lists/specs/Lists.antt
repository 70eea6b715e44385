-- Rows that have an ID and a number each, by rising ID, and for each number the list of the IDs that have it.
-- A word with no source is this project's rule.
use Rattle.std.specs.Prelude.{ℕ, Bool, false, ◌==◌, List, [], ◌∷◌, map, Option, None, Some, nat_lt}
use Rattle.std.specs.List.{filter, find}
use Rattle.std.specs.Option.{option_map, option_map_or, option_and_then}
use Rattle.mt_skel.specs.Keyed.{row_at, put, without}

-- an ID with its number
pub record ListRow : Type 0 where
  pub id : ℕ
  pub number : ℕ

-- what contracts see of `Lists`: the rows, and how many may be added without more memory
pub record ListsView : Type 0 where
  pub rows : List ListRow
  pub room : ℕ

-- rows are listed by rising ID
abbrev pub listed_id : ListRow → ℕ
listed_id r = r.id

-- the number that an ID has
abbrev pub listed_number : List ListRow → ℕ → Option ℕ
listed_number rows i = option_map (λ (r : ListRow). r.number) (row_at listed_id i rows)

-- the IDs that have this number, rising
abbrev pub ids : List ListRow → ℕ → List ℕ
ids rows n = map listed_id (filter (λ (r : ListRow). n == r.number) rows)

-- the row of one ID is taken away
abbrev pub without_row : ℕ → List ListRow → List ListRow
without_row i rows = without (λ (r : ListRow). i == r.id) rows

-- from now on an ID has this number, or none
abbrev pub with_number : ℕ → Option ℕ → List ListRow → List ListRow
with_number i None rows = without_row i rows
with_number i (Some n) rows = put listed_id (record { id = i; number = n }) rows

-- the first of a list
abbrev pub first : List ℕ → Option ℕ
first [] = None
first (x ∷ xs) = Some x

-- the first above k, in a rising list the next after it
abbrev pub above : ℕ → List ℕ → Option ℕ
above k xs = find (λ x. nat_lt k x) xs

-- the ID after this one in the list of its number
abbrev pub next_of : List ListRow → ℕ → Option ℕ
next_of rows i = option_and_then (λ n. above i (ids rows n)) (listed_number rows i)

-- an optional number is this one
abbrev pub names : Option ℕ → ℕ → Bool
names o n = option_map_or (λ m. m == n) o false
