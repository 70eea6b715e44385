-- Which component of a path is not there.
-- A word with no source is this project's rule.
use Rattle.std.specs.Prelude.{ℕ, List, [], ◌∷◌, ◌++◌, take, length, nat_le, cond, slice_index_or, Option, None, codes, decimal}
use Rattle.std.specs.Option.{option_and_then, option_map}
use Rattle.mt_skel.specs.Escapes.{escaped}
use Rattle.mt_info.specs.RowLine.{path_text}
use Rattle.mt_book.specs.declared.command.Command.{Command}
use Rattle.mt_reach.specs.declared.row.SeenRow.{SeenRow}
use Rattle.mt_reach.specs.Walking.{end_of, directory_at}
use Rattle.mt_refused.specs.declared.asked.Which.{Which}
use Rattle.mt_refused.specs.Asked.{asked_space, asked_path}
use Rattle.mt_refused.specs.Titles.{TitlesView}
use Rattle.mt_refused.specs.Pages.{PageView}
use Rattle.mt_refused.specs.Parts.{all_texts, mount_told, called_text}
use Rattle.mt_refused.specs.Listings.{told_line}

-- a path is not there, and its first names are
unfoldable pub absent_text : PageView → Which → List (List ℕ) → List ℕ
absent_text v which front = all_texts (codes "NoEntry: " ∷ called_text v which ∷ codes " is not there: " ∷ path_text front ∷ [])

-- a directory of a mount has no such name
unfoldable pub without_text : PageView → SeenRow → List (List ℕ) → List ℕ → List ℕ
without_text v r directory name =
    all_texts (codes " is directory " ∷ path_text directory ∷ codes " of " ∷ mount_told v r.id ∷ codes ", and has no " ∷ escaped name ∷ codes "\n" ∷ [])

-- a path is not there: its first names lead to this directory of a mount, which has no such name (path_resolution(7), ENOENT)
abbrev pub missing_line : PageView → Which → SeenRow → List (List ℕ) → List (List ℕ) → List ℕ → List ℕ
missing_line v which r front directory name = absent_text v which front ++ without_text v r directory name

-- what makes it (mkdir(2)): the filesystem of a mount is told by its device (proc_pid_mountinfo(5), field 3)
unfoldable pub mkdir_line : SeenRow → List (List ℕ) → List ℕ
mkdir_line r directory =
    all_texts (codes "  to change that: mkdir FS " ∷ path_text directory ∷ codes ", where FS is the filesystem " ∷ decimal r.root.device.major ∷ codes ":"
    ∷ decimal r.root.device.minor ∷ codes "\n" ∷ [])

-- with the row of the mount
unfoldable pub lacking_text : PageView → Which → SeenRow → List (List ℕ) → List ℕ → List ℕ
lacking_text v which r front name =
    missing_line v which r front (directory_at r front).path name ++ (told_line v r.id ++ mkdir_line r ((directory_at r front).path ++ name ∷ []))

-- what is told of a path of a command whose first names lead to a directory, and the next one no further
abbrev pub missing_text : List SeenRow → TitlesView → Command → Which → ℕ → Option (List ℕ)
missing_text rows names c which there =
    option_and_then
    (λ n. option_and_then
    (λ path. cond (nat_le (length path) there) None
    (option_map (λ r. lacking_text (record { rows = rows; titles = names; command = c }) which r (take there path) (slice_index_or path there [])) (end_of rows n (take there path))))
    (asked_path c which))
    (asked_space c)
