-- The texts of answers: a refusal, what a command answers, a table, the place where a path ends. Those of what a watcher found and of posts are in mt_events.
-- A word with no source is this project's rule.
use Rattle.std.specs.Prelude.{ℕ, ◌-◌, List, [], ◌∷◌, ◌++◌, length, take, drop, Result, Ok, Err, codes, decimal, cond}
use Rattle.std.specs.List.{flat_map}
use Rattle.mt_skel.specs.declared.fault.Fault.{Fault}
use Rattle.mt_skel.specs.declared.fault.Fault.TheVariants.{NoNamespace}
use Rattle.mt_skel.specs.Fault.{name_of}
use Rattle.mt_propagate.specs.World.{is_space}
use Rattle.mt_info.specs.Table.{table_of}
use Rattle.mt_info.specs.RowLine.{path_text}
use Rattle.mt_events.specs.Texts.{count_text, table_text}
use Rattle.mt_book.specs.declared.command.Command.{Command}
use Rattle.mt_book.specs.declared.command.Reply.{Reply}
use Rattle.mt_book.specs.declared.command.Reply.TheVariants.{Done, Number}
use Rattle.mt_book.specs.Step.{gives_room, after}
use Rattle.mt_book.specs.Book.{found_at, locks_in}
use Rattle.mt_locks.specs.declared.mount_locks.MountLocks.{MountLocks}
use Rattle.mt_info.specs.LockLine.{whole_lock_line}
use Rattle.mt_book.specs.History.{space_number}
use Rattle.mt_requests.specs.declared.request.Query.{Query}
use Rattle.mt_requests.specs.declared.request.Query.TheVariants.{Show, Locks, Find, Journal}
use Rattle.mt_requests.specs.Printed.{commands_text}

-- the line of a refusal
abbrev pub refusal : Fault → List ℕ
refusal f = codes "no " ++ name_of f ++ 10 ∷ []

-- the line `ok`
abbrev pub done_text : List ℕ
done_text = codes "ok\n"

abbrev pub reply_text : Reply → List ℕ
reply_text Done = done_text
reply_text (Number n) = count_text n

-- the table of a namespace after these commands, and how many posts it has had
abbrev pub shown_text : List Command → ℕ → List ℕ
shown_text journal n = cond (is_space (after journal) n) (table_text (space_number n journal) (table_of (after journal) n)) (refusal NoNamespace)

-- what is locked in a namespace after these commands: how many mounts something is locked of, and what
abbrev pub lock_lines_text : List MountLocks → List ℕ
lock_lines_text rows = count_text (length rows) ++ flat_map whole_lock_line rows

abbrev pub locks_text : List Command → ℕ → List ℕ
locks_text journal n = cond (is_space (after journal) n) (lock_lines_text (locks_in (after journal) n)) (refusal NoNamespace)

-- `ok`, the mount where the path ends, and the path of the directory in the mount's filesystem
abbrev pub place_text : ℕ → List (List ℕ) → List ℕ
place_text mount names = codes "ok " ++ decimal mount ++ codes " " ++ path_text names ++ 10 ∷ []

abbrev pub found_text : Result (ℕ × List (List ℕ)) Fault → List ℕ
found_text (Ok p) = place_text p.0 p.1
found_text (Err f) = refusal f

-- the commands that are listed: all but one at the beginning that gives room, for which no line asks
abbrev pub commands_said : List Command → List Command
commands_said [] = []
commands_said (c ∷ cs) = cond (gives_room c) cs (c ∷ cs)

-- the commands from the one of a number on, up to so many; the first has number 1
abbrev pub commands_from : ℕ → ℕ → List Command → List Command
commands_from from most journal = take most (drop (from - 1) journal)

-- `ok`, how many commands there are, and the line of each
abbrev pub listed_text : List Command → List ℕ
listed_text cs = count_text (length cs) ++ commands_text cs

-- what a query is answered after these commands
abbrev pub query_text : List Command → Query → List ℕ
query_text journal (Show n) = shown_text journal n
query_text journal (Locks n) = locks_text journal n
query_text journal (Find n path) = found_text (found_at (after journal) n path)
query_text journal (Journal from most) = listed_text (commands_from from most (commands_said journal))
