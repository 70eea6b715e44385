-- How ties lie in a table of entries, each at its ID. No public clause cites this module, except for `Index`.
-- A word with no source is this project's rule.
use Rattle.std.specs.Prelude.{ℕ, List, [], ◌∷◌, Option, nat_eq}
use Rattle.std.specs.Option.{option_map}
use Rattle.std.specs.declared.hash.FoldHasher.{FoldHasher}
use Rattle.std.specs.declared.hash.BuildHasherDefault.{BuildHasherDefault}
use Rattle.indexmap.specs.IndexMap.{IndexMap, get}
use Rattle.mt_skel.specs.Keyed.{put}
use Rattle.mt_lists.specs.declared.entries.Entry.{Entry}
use Rattle.mt_lists.specs.declared.ties.Tie.{Tie}
use Rattle.mt_lists.specs.Lists.{ListRow, listed_id}

-- a table by numbers
abbrev pub Index : Type 0 → Type 0
Index V = IndexMap ℕ V (BuildHasherDefault FoldHasher)

-- the tie of an ID that has this entry, and its row
abbrev pub tie_of_entry : ℕ → Entry → Tie
tie_of_entry i e = record { id = i; number = e.number; before = e.before; after = e.after }

abbrev pub row_of_entry : ℕ → Entry → ListRow
row_of_entry i e = record { id = i; number = e.number }

-- the tie at each ID
abbrev pub ties_of : Index Entry → ℕ → Option Tie
ties_of m i = option_map (tie_of_entry i) (get nat_eq m i)

-- the rows of these entries, by rising ID
abbrev pub rows_from : List (ℕ × Entry) → List ListRow
rows_from [] = []
rows_from (e ∷ es) = put listed_id (row_of_entry e.0 e.1) (rows_from es)

-- the rows of a table of entries, by rising ID
unfoldable pub rows_of : Index Entry → List ListRow
rows_of m = rows_from m.entries
