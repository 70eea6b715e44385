-- What contracts see of `SlotLists`: the rows of a `Lists`, each in a slot.
-- A word with no source is this project's rule.
use Rattle.std.specs.Prelude.{◌≡◌, ℕ, List, Option, None, Some, ◌-◌, ◌++◌, length, replicate, slice_index_or}
use Rattle.std.specs.Option.{option_map}
use Rattle.mt_lists.specs.Lists.{ListRow}

-- the rows by rising ID, the ID in each slot, and how many numbers may be new without more memory
pub record SlotListsView : Type 0 where
  pub rows : List ListRow
  pub slots : List (Option ℕ)
  pub room : ℕ

-- the ID in a slot
abbrev pub id_in : List (Option ℕ) → ℕ → Option ℕ
id_in slots k = slice_index_or slots k None

-- at least this many slots; those that are new have no ID
abbrev pub lengthened : ℕ → List (Option ℕ) → List (Option ℕ)
lengthened width slots = slots ++ replicate (width - length slots) None

-- a slot, if any, is the one with this ID, if any
abbrev pub LeadsTo : (ℕ → Option ℕ) → Option ℕ → Option ℕ → Type 0
LeadsTo ids slot id = option_map ids slot ≡ option_map (λ i. Some i) id
