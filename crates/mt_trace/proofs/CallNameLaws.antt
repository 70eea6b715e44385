-- The table of the calls that are followed.
use Rattle.std.proofs.Common.{◌≡◌, ℕ, List, [], ◌∷◌, ◌++◌, map, refl, ap}
use Rattle.std.specs.List.{flat_map}
use Rattle.mt_trace.specs.declared.call_name.CallName.{CallName}
use Rattle.mt_trace.specs.declared.call_name.CallRow.{CallRow}
use Rattle.mt_trace.specs.CallNames.{call_named, call_list}
use Rattle.mt_trace.specs.Laws.{NamesAreFollowed, ListHasAllNames}

pub names_followed : NamesAreFollowed
unfolding call_named
names_followed = refl

pub all_listed : ListHasAllNames
unfolding call_list
all_listed = refl

-- the names of rows that hold references, each behind a comma
pub names_behind : (rows : List CallRow) → flat_map (λ (row : CallRow). 44 ∷ row.1.now) rows ≡ flat_map (λ (next : CallName × List ℕ). 44 ∷ next.1) (map (λ (row : CallRow). (row.0, row.1.now)) rows)
names_behind [] = refl
names_behind (row ∷ rows) = ap (λ (text : List ℕ). 44 ∷ (row.1.now ++ text)) (names_behind rows)
