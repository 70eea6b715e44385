-- What the lines of a script are.
-- A word with no source is this project's rule.
use Rattle.std.specs.Prelude.{◌≡◌, ℕ, Bool, true, false, not, ◌==◌, ◌&&◌, ◌||◌, nat_eq, cond, IsTrue, List, [], ◌∷◌, ◌++◌, Option, Some, None, Result, Ok, codes, decimal, take}
use Rattle.std.specs.List.{list_all, starts_with, flat_map, join_with_byte}
use Rattle.mt_skel.specs.declared.fault.Fault.{Fault}
use Rattle.mt_requests.specs.declared.request.Request.{Request}
use Rattle.mt_requests.specs.declared.request.Request.TheVariants as request
use Rattle.mt_requests.specs.Requests.{request_of}
use Rattle.mt_import.specs.declared.reason.Reason.{Reason}
use Rattle.mt_import.specs.declared.reason.Reason.TheVariants.{SameTable, SecondLine, NoRootMount, NoParent, ParentLeftOut, Ring, NoDirectory, Elsewhere, AtRoot, TooManyAtRoot, LongAtRoot, ScriptName, TooDeep, NoSuchGroups, TooLow, SamePlace, NoRoom, Unmade}
use Rattle.mt_import.specs.Options.{are_known}
use Rattle.mt_import.specs.Reading.{ToldMount}

-- whether a line asks for a command
abbrev pub is_run : Result Request Fault → Bool
is_run (Ok (request.Run c)) = true
is_run asked = false

-- a comment begins with `#`
abbrev pub is_comment : List ℕ → Bool
is_comment line = starts_with nat_eq line (codes "#")

-- a line of a script has no line end in it, and is a comment, or is read as a command
abbrev pub is_script_line : List ℕ → Bool
is_script_line line = list_all (λ b. not (b == 10)) line && (is_comment line || is_run (request_of line))

-- a script is lines of a script, each with its line end
abbrev pub IsScript : List ℕ → Type 0
IsScript text = (lines : List (List ℕ)) × (text ≡ flat_map (λ line. line ++ 10 ∷ []) lines) × IsTrue (list_all is_script_line lines)

-- a line with its line end, if it can stand in a script
unfoldable pub line_text : List ℕ → List ℕ
line_text line = cond (is_script_line line) (line ++ 10 ∷ []) []

-- the line of a command
unfoldable pub command_line : List ℕ → List ℕ
command_line line = line ++ 10 ∷ []

-- the command of these words
unfoldable pub command_text : List (List ℕ) → List ℕ
command_text words = command_line (join_with_byte 32 words)

-- a comment on a table, of two texts
unfoldable pub table_comment : ℕ → List ℕ → List ℕ → List ℕ
table_comment table text last = line_text (flat_map (λ x. x) (codes "# table " ∷ decimal table ∷ text ∷ last ∷ []))

-- a comment on a mount of a table, with its row: the first 8,000 bytes, since a line that is sent is no longer than 8,192
unfoldable pub comment_text : ℕ → ToldMount → List ℕ → List ℕ
comment_text table row text = table_comment table (codes ": mount ") (decimal row.id ++ (codes " " ++ (text ++ (codes ": " ++ take 8000 row.line))))

-- the comment on a mount that does not have all options of its row here, if it is one
unfoldable pub options_comment : ℕ → ToldMount → List ℕ
options_comment table row = cond (are_known row.options) [] (comment_text table row (codes "has options that are left out"))

-- why a mount is not made
abbrev pub reason_text : Reason → List ℕ
reason_text SameTable = codes "its table is told before"
reason_text SecondLine = codes "a line before it tells its mount"
reason_text NoRootMount = codes "there is no root mount"
reason_text NoParent = codes "it stands on no other"
reason_text ParentLeftOut = codes "what it stands on is left out"
reason_text Ring = codes "its parents go round in a ring"
reason_text NoDirectory = codes "its root or mount point is no directory"
reason_text Elsewhere = codes "it stands elsewhere than below its parent"
reason_text AtRoot = codes "it stands on the root of one that has peers at the root of the namespace"
reason_text TooManyAtRoot = codes "too many stand below it at the root of the namespace"
reason_text LongAtRoot = codes "its root is too long for one that has peers at the root of the namespace"
reason_text ScriptName = codes "its path has the name that the script uses"
reason_text TooDeep = codes "its directory is too deep"
reason_text NoSuchGroups = codes "its peer groups cannot be as it tells them"
reason_text TooLow = codes "too many groups are above its own"
reason_text SamePlace = codes "another mount stands in its place"
reason_text NoRoom = codes "the server has no room for it"
reason_text Unmade = codes "no script makes it"

-- the comment that tells why a mount is not made
unfoldable pub left_out_text : ℕ → ToldMount → Reason → List ℕ
left_out_text table row why = comment_text table row (codes "is left out: " ++ reason_text why)

-- what is told of a row that is left out, for a reason, or of one that is made
abbrev pub left_row_text : ℕ → ToldMount → Option Reason → List ℕ
left_row_text table row None = []
left_row_text table row (Some why) = left_out_text table row why

abbrev pub mount_comment : ℕ → ToldMount → Option Reason → List ℕ
mount_comment table row None = options_comment table row
mount_comment table row (Some why) = left_out_text table row why

-- which group of the tables is which one of the server
unfoldable pub group_comment : ℕ → ℕ → List ℕ
group_comment there here = line_text (flat_map (λ x. x) (codes "# shared:" ∷ decimal there ∷ codes " of the tables is shared:" ∷ decimal here ∷ []))
