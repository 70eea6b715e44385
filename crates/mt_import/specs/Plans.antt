-- What is planned of tables is what they tell.
-- A word with no source is this project's rule.
use Rattle.std.specs.Prelude.{ℕ, suc, Bool, true, false, not, ◌&&◌, ◌||◌, ◌==◌, nat_le, nat_lt, if◌then◌else◌, List, [], ◌∷◌, length, slice_get, Option, Some, None}
use Rattle.std.specs.BTreeMap.{BTreeMap, get}
use Rattle.std.specs.List.{filter, flat_map, list_all, list_any}
use Rattle.std.specs.Option.{option_map_or}
use Rattle.std.specs.Ordering.{nat_cmp}
use Rattle.std.specs.Str.{bytes_eq}
use Rattle.mt_import.specs.declared.groups.Group.{Group}
use Rattle.mt_import.specs.declared.mount.Mount.{Mount}
use Rattle.mt_import.specs.declared.space.Space.{Space}
use Rattle.mt_import.specs.declared.space.Way.{Way}
use Rattle.mt_import.specs.Locking.{came_as_copy}
use Rattle.mt_import.specs.Reading.{ToldMount}
use Rattle.mt_import.specs.Telling.{is_made, is_shown}

-- a mount is made only if what it stands on is
abbrev pub is_founded : List Way → ℕ → ℕ → Bool
is_founded ways number above = not (is_made ways number) || is_made ways above

abbrev pub level_of : List Mount → ℕ → ℕ
level_of mounts number = option_map_or (λ (mount : Mount). mount.level) (slice_get mounts number) 0

abbrev pub is_apart : List Way → ℕ → Bool
is_apart ways number = option_map_or (λ (way : Way). way.apart) (slice_get ways number) false

-- One on which another one is made, elsewhere than on its root, is made apart before that. At the root of the namespace, where the level is 0, each is made at once.
abbrev pub comes_first : List Mount → List Way → ℕ → ℕ → ℕ → Bool
comes_first mounts ways number level above =
    not (is_made ways number) || level_of mounts above == 0 || nat_le level (level_of mounts above) || is_apart ways above

-- so do all mounts from a number on
abbrev pub stand_on_made : List Mount → List Way → ℕ → List Mount → Bool
stand_on_made all ways number [] = true
stand_on_made all ways number (mount ∷ mounts) =
    is_founded ways number mount.above && comes_first all ways number mount.level mount.above && stand_on_made all ways (suc number) mounts

abbrev pub is_well_ordered : Space → Bool
is_well_ordered of = stand_on_made of.tree.mounts of.ways.items 0 of.tree.mounts

-- the rows of the mounts that are made
abbrev pub rows_made_from : List Way → ℕ → List Mount → List ToldMount
rows_made_from ways number [] = []
rows_made_from ways number (mount ∷ mounts) = if is_made ways number then mount.row.now ∷ rows_made_from ways (suc number) mounts else rows_made_from ways (suc number) mounts

abbrev pub rows_made : Space → List ToldMount
rows_made of = rows_made_from of.ways.items 0 of.tree.mounts

-- A foreign namespace is made with locks if all its mounts that are made may be locked, and it is not the one of which the others are copies: it is then a less
-- privileged copy of the one in which they are made (mount_namespaces(7)).
abbrev pub is_lockable : List ToldMount → Space → Bool
is_lockable first of = is_shown of && of.tree.told.is_foreign && nat_lt 1 of.original && list_all (came_as_copy first) (rows_made of)

-- such a copy has the next number, and another namespace the one with which its mounts are made
abbrev pub has_own_number : List ToldMount → Space → Bool
has_own_number first of = of.number == (if is_lockable first of then suc of.original else of.original)

-- tables are numbered as they come, and so are namespaces, of which each table has one if its root mount is made
abbrev pub are_numbered : List ToldMount → ℕ → ℕ → List Space → Bool
are_numbered first table last [] = true
are_numbered first table last (of ∷ others) =
    of.tree.table == table && of.original == suc last && has_own_number first of
    && are_numbered first (suc table) (if is_shown of then of.number else last) others

-- the rows of the first table
abbrev pub first_rows : List Space → List ToldMount
first_rows [] = []
first_rows (of ∷ others) = of.tree.told.rows

-- whether a number is told, and whether both are told and are the same, or neither is told
abbrev pub is_number : Option ℕ → ℕ → Bool
is_number told number = option_map_or (λ (n : ℕ). n == number) told false

abbrev pub is_same : Option ℕ → Option ℕ → Bool
is_same None None = true
is_same (Some one) (Some other) = one == other
is_same one other = false

-- how many of some rows are members of a group, and whether one is its slave
abbrev pub count_members : List ToldMount → ℕ → ℕ
count_members rows group = length (filter (λ (row : ToldMount). is_number row.shared group) rows)

abbrev pub has_slave : List ToldMount → ℕ → Bool
has_slave rows group = list_any (λ (row : ToldMount). is_number row.master group) rows

-- a group is that of a row: it has the master and the device of the row, all members that are made, and slaves if one is made
abbrev pub is_group_of : Group → List ToldMount → ToldMount → ℕ → Bool
is_group_of group rows row number =
    is_same group.master row.master && bytes_eq group.device.now row.device && group.members == count_members rows number && (group.is_needed || not (has_slave rows number))

abbrev pub is_grouped : BTreeMap ℕ Group → List ToldMount → ToldMount → Bool
is_grouped groups rows row =
    option_map_or (λ number. option_map_or (λ (group : Group). is_group_of group rows row number) (get nat_cmp groups number) false) row.shared true

-- all rows that are made are in their groups, whichever table they are from
abbrev pub are_grouped : BTreeMap ℕ Group → List ToldMount → Bool
are_grouped groups rows = list_all (is_grouped groups rows) rows

-- what is planned of tables is what they tell
abbrev pub is_sound : BTreeMap ℕ Group → List Space → Bool
is_sound groups spaces = are_numbered (first_rows spaces) 1 0 spaces && list_all is_well_ordered spaces && are_grouped groups (flat_map rows_made spaces)
