-- The rows of tables as they are seen: paths without escapes, devices as numbers (proc_pid_mountinfo(5)).
-- A word with no source is this project's rule.
use Rattle.std.specs.Prelude.{◌≡◌, ⊤, ℕ, suc, ◌+◌, ◌-◌, Bool, true, false, not, cond, ◌||◌, ◌==◌, nat_eq, nat_lt, List, [], ◌∷◌, ◌++◌, map, drop, length, Option, Some, None, unwrap_or, codes, IsPermutation}
use Rattle.std.specs.List.{filter, starts_with, ends_with}
use Rattle.std.specs.Option.{option_and_then, option_map}
use Rattle.mt_skel.specs.Escapes.{unescaped}
use Rattle.mt_lines.specs.Words.{pieces, number_in_text}
use Rattle.mt_import.specs.Reading.{ToldMount}
use Rattle.mt_reach.specs.declared.row.Device.{Device}
use Rattle.mt_reach.specs.declared.row.SeenDirectory.{SeenDirectory}
use Rattle.mt_reach.specs.declared.row.SeenRow.{SeenRow}
use Rattle.mt_questions.specs.declared.misfit.LineAt.{LineAt}
use Rattle.mt_questions.specs.declared.misfit.SeeingFault.{SeeingFault}
use Rattle.mt_questions.specs.declared.misfit.SeeingFault.TheVariants.{Unread, Twice, NoMemory}
use Rattle.mt_questions.specs.declared.table.NamedSpace.{NamedSpace}
use Rattle.mt_questions.specs.Tables.{ToldTable}

-- a device: two numbers with a colon between them (proc_pid_mountinfo(5), field 3)
abbrev pub device_of_pieces : List (List ℕ) → Option Device
device_of_pieces (major ∷ minor ∷ []) = option_and_then (λ a. option_map (λ b. record { major = a; minor = b }) (number_in_text minor)) (number_in_text major)
device_of_pieces others = None

abbrev pub device_of_word : List ℕ → Option Device
device_of_word word = device_of_pieces (pieces 58 word)

-- a piece between slashes is a name, but for one that is empty
abbrev pub is_component : List ℕ → Bool
is_component piece = not (length piece == 0)

-- the names of a path
abbrev pub components_in : List ℕ → List (List ℕ)
components_in bytes = filter is_component (pieces 47 bytes)

-- a path begins at a root
abbrev pub begins_at_root : List ℕ → Bool
begins_at_root bytes = starts_with nat_eq bytes (codes "/")

-- the path of a word, without escapes
abbrev pub path_of_word : List ℕ → Option (List (List ℕ))
path_of_word word = option_and_then (λ bytes. cond (begins_at_root bytes) (Some (components_in bytes)) None) (unescaped word)

-- what is shown is no directory of the filesystem: one that was deleted, as the kernel marks it, or what has none, as a namespace
abbrev pub is_unlinked : List ℕ → Bool
is_unlinked bytes = not (begins_at_root bytes) || ends_with nat_eq bytes (codes "//deleted")

-- the names of what a mount shows: what is no directory of its filesystem has one, which is all of its text
abbrev pub path_shown : List ℕ → List (List ℕ)
path_shown bytes = cond (is_unlinked bytes) (bytes ∷ []) (components_in bytes)

-- what a mount shows, by its filesystem and bytes without escapes
abbrev pub directory_in : Device → List ℕ → SeenDirectory
directory_in device bytes = record { device = device; unlinked = is_unlinked bytes; path = path_shown bytes }

-- a text without escapes, or as it is where it is none of a row
abbrev pub text_in : List ℕ → List ℕ
text_in word = unwrap_or (unescaped word) word

-- the row of a mount, given its parts
abbrev pub row_given : ℕ → ToldMount → SeenDirectory → List (List ℕ) → SeenRow
row_given n m root point = record {
  space = n;
  id = m.id;
  parent = m.parent;
  root = root;
  point = point;
  group = m.shared;
  master = m.master;
  via = m.via;
  unbindable = m.unbindable;
  kind = text_in m.kind;
  source = text_in m.source;
}

-- what a line of the table of the namespace n tells; none where its device, its root or its mount point is not a word of that kind
unfoldable pub told_row : ℕ → ToldMount → Option SeenRow
told_row n m =
    option_and_then (λ device. option_and_then (λ root. option_map (row_given n m (directory_in device root)) (path_of_word m.point)) (unescaped m.root)) (device_of_word m.device)

-- the lines of a table, and of tables of which the first is of the namespace n
abbrev pub told_rows_from : ℕ → List ToldTable → List (Option SeenRow)
told_rows_from n [] = []
told_rows_from n (t ∷ ts) = map (told_row n) t.rows ++ told_rows_from (suc n) ts

-- the lines of all tables, of which the first is of the namespace 1
abbrev pub told_rows : List ToldTable → List (Option SeenRow)
told_rows ts = told_rows_from 1 ts

-- rows are those that the lines of tables tell, in whatever order: each line tells one
pub record AreToldBy (tables : List ToldTable) (rows : List SeenRow) : Type 0 where
  pub told : List SeenRow
  pub all : map Some told ≡ told_rows tables
  pub same : IsPermutation told rows

-- the names of tables, of which the first is of the namespace n
abbrev pub names_from : ℕ → List ToldTable → List NamedSpace
names_from n [] = []
names_from n (t ∷ ts) = record { space = n; name = t.name } ∷ names_from (suc n) ts

-- a line of the table of the namespace n, counted from 1, tells no row
pub record IsUnreadIn (n : ℕ) (lines : List ToldMount) (line : ℕ) : Type 0 where
  pub told : ToldMount
  pub later : List ToldMount
  pub there : drop (line - 1) lines ≡ told ∷ later
  pub no_row : told_row n told ≡ None

-- the same of one of the tables, counted from 1
pub record IsUnreadAt (tables : List ToldTable) (at : LineAt) : Type 0 where
  pub told : ToldTable
  pub later : List ToldTable
  pub there : drop (at.table - 1) tables ≡ told ∷ later
  pub line : IsUnreadIn at.table told.rows at.line

-- a line is of this mount
abbrev pub is_line_of : ℕ → ToldMount → Bool
is_line_of i m = m.id == i

-- how many lines of all tables are of a mount
abbrev pub lines_count : List ToldTable → ℕ → ℕ
lines_count [] i = 0
lines_count (t ∷ ts) i = length (filter (is_line_of i) t.rows) + lines_count ts i

-- several are
abbrev pub is_twice : List ToldTable → ℕ → Bool
is_twice tables i = nat_lt 1 (lines_count tables i)

-- what is told as the reason why there are no rows is so
abbrev pub IsToldFault : List ToldTable → SeeingFault → Type 0
IsToldFault tables (Unread at) = IsUnreadAt tables at
IsToldFault tables (Twice i) = is_twice tables i ≡ true
IsToldFault tables NoMemory = ⊤

-- two of some rows have one ID
pub record HaveTwice (rows : List SeenRow) : Type 0 where
  pub one : SeenRow
  pub other : SeenRow
  pub others : List SeenRow
  pub all : IsPermutation rows (one ∷ other ∷ others)
  pub same : one.id ≡ other.id
