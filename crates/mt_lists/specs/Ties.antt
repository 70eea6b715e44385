-- IDs that are tied: each stands at a place, with the places of its neighbours in the list of its number. `ties` is the tie at each place, `rows` what
-- rows they are. No public clause cites this module.
-- A word with no source is this project's rule.
use Rattle.std.specs.Prelude.{◌≡◌, ℕ, ◌+◌, ◌-◌, ◌<◌, ◌==◌, cond, List, Option, None, Some, IsTrue, is_none, nat_eq}
use Rattle.std.specs.Option.{option_map, option_and_then, unwrap_or}
use Rattle.indexmap.specs.IndexMap.{get}
use Rattle.mt_skel.specs.Keyed.{row_at, rises}
use Rattle.mt_lists.specs.declared.ties.Tie.{Tie}
use Rattle.mt_lists.specs.declared.tops.Top.{Top}
use Rattle.mt_lists.specs.Lists.{ListRow, listed_id, ids, above}
use Rattle.mt_lists.specs.Neighbours.{Ends, below, ends_of}
use Rattle.mt_lists.specs.SlotLists.{LeadsTo}
use Rattle.mt_lists.specs.Tables.{Index}

-- the ID of a tie, if there is one
abbrev pub id_of_tie : Option Tie → Option ℕ
id_of_tie t = option_map (λ (x : Tie). x.id) t

-- the ID at a place
abbrev pub id_at : (ℕ → Option Tie) → ℕ → Option ℕ
id_at ties k = id_of_tie (ties k)

-- a tie's row
abbrev pub tied_row : Tie → ListRow
tied_row t = record { id = t.id; number = t.number }

-- a tie leads to the places of its neighbours in the list of its number
pub record HasNeighbours (ties : ℕ → Option Tie) (rows : List ListRow) (t : Tie) : Type 0 where
  pub before_told : LeadsTo (id_at ties) t.before (below t.id (ids rows t.number))
  pub after_told : LeadsTo (id_at ties) t.after (above t.id (ids rows t.number))

-- the ends of a list by their IDs, where its places have them
abbrev pub ends_in : (ℕ → Option Tie) → Top → Option Ends
ends_in ties top = option_and_then (λ f. option_map (λ l. record { first = f; last = l; count = top.count }) (id_at ties top.last)) (id_at ties top.first)

-- a place has an ID below this one
pub record IsBelow (ties : ℕ → Option Tie) (id place : ℕ) : Type 0 where
  pub other : ℕ
  pub there : id_at ties place ≡ Some other
  pub below : other < id

-- no two places have one ID
abbrev pub AreApart : (ℕ → Option Tie) → Type 0
AreApart ties = (j k i : ℕ) → id_at ties j ≡ Some i → id_at ties k ≡ Some i → j ≡ k

-- each tie has a row, no two have one ID, each leads to its neighbours, and each number that is in use has the ends and the length of its list
pub record IsTied (ties : ℕ → Option Tie) (rows : List ListRow) (tops : Index Top) : Type 0 where
  pub rising : IsTrue (rises listed_id rows)
  pub apart : AreApart ties
  pub rows_told : (k : ℕ) (t : Tie) → ties k ≡ Some t → row_at listed_id t.id rows ≡ Some (tied_row t)
  pub ties_told : (k : ℕ) (t : Tie) → ties k ≡ Some t → HasNeighbours ties rows t
  pub tops_told : (n : ℕ) → option_map (ends_in ties) (get nat_eq tops n) ≡ option_map (λ e. Some e) (ends_of (ids rows n))

-- a tie once another place stands before it
abbrev pub with_before : Option ℕ → Tie → Tie
with_before before t = record t { before = before }

-- a tie once another place stands after it
abbrev pub with_after : Option ℕ → Tie → Tie
with_after after t = record t { after = after }

-- the ties once one of them, if any, is another
abbrev pub given_tie : Option ℕ → (Tie → Tie) → (ℕ → Option Tie) → ℕ → Option Tie
given_tie None f ties k = ties k
given_tie (Some place) f ties k = cond (nat_eq place k) (option_map f (ties k)) (ties k)

-- the top of a list once it has one place more, between these
abbrev pub grown_top : ℕ → Option ℕ → Option ℕ → Option Top → Top
grown_top place before after None = record { first = place; last = place; count = 1; recent = place }
grown_top place before after (Some t) = record { first = cond (is_none before) place t.first; last = cond (is_none after) place t.last; count = t.count + 1; recent = place }

-- the top of a list once it has lost a place that was between these
abbrev pub shrunk_top : ℕ → Option ℕ → Option ℕ → Top → Option Top
shrunk_top place before after t = cond (t.count == 1) None (Some (record {
  first = cond (t.first == place) (unwrap_or after place) t.first;
  last = cond (t.last == place) (unwrap_or before place) t.last;
  count = t.count - 1;
  recent = t.recent;
}))
