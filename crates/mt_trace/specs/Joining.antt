-- Calls of which beginning and end stand on two lines (strace(1): lines of other processes come between them).
-- A word with no source is this project's rule.
use Rattle.std.specs.Prelude.{ℕ, nat_eq, if◌then◌else◌, List, ◌++◌, Bool, false, Option, None, Some, codes}
use Rattle.std.specs.BTreeMap.{insert_entry, is_at}
use Rattle.std.specs.List.{starts_with}
use Rattle.std.specs.Map.{lookup, remove_entry}
use Rattle.std.specs.Option.{option_map_or}
use Rattle.std.specs.Ordering.{nat_cmp}
use Rattle.mt_strace.specs.declared.line.StraceLine.{StraceLine}
use Rattle.mt_strace.specs.declared.line.StraceLine.TheVariants as line
use Rattle.mt_strace.specs.Cuts.{stripped}
use Rattle.mt_trace.specs.declared.joining.JoinedLine.{JoinedLine}
use Rattle.mt_trace.specs.declared.joining.JoinedLine.TheVariants as joining

-- the number under which the beginning of a process waits; strace names none if it follows one alone, and no process has the number 0
abbrev pub waiting_number : Option ℕ → ℕ
waiting_number None = 0
waiting_number (Some n) = n

-- the beginnings that wait for their ends, by these numbers
abbrev pub Waiting : Type 0
Waiting = List (ℕ × List ℕ)

abbrev pub waiting_at : ℕ → Waiting → Option (List ℕ)
waiting_at n w = lookup (is_at (nat_cmp n)) w

abbrev pub not_waiting : ℕ → Waiting → Waiting
not_waiting n w = remove_entry (is_at (nat_cmp n)) w

-- a beginning is one of a call of this name
abbrev pub begins_call : List ℕ → List ℕ → Bool
begins_call name beginning = option_map_or (λ behind. starts_with nat_eq behind (codes "(")) (stripped name beginning) false

-- an end is joined with the beginning of its call
abbrev pub ended_line : ℕ → List ℕ → List ℕ → Waiting → Option (List ℕ) → JoinedLine × Waiting
ended_line n name end w None = (joining.Unbegun, w)
ended_line n name end w (Some beginning) = if begins_call name beginning then (joining.Ended (beginning ++ end), not_waiting n w) else (joining.Unbegun, w)

-- a thread that goes on under the number of its process takes its beginning along
abbrev pub superseded : ℕ → Waiting → Option (List ℕ) → Waiting
superseded n w None = not_waiting n w
superseded n w (Some beginning) = insert_entry nat_cmp w n beginning

abbrev pub taken_over : ℕ → ℕ → Waiting → JoinedLine × Waiting
taken_over n by w = (joining.Over (waiting_at n (not_waiting by w)), superseded n (not_waiting by w) (waiting_at by w))

-- what a line is once beginnings and ends are joined, and the beginnings that wait then. A beginning whose call has no end is told:
-- when its process begins another one, or ends
abbrev pub joined_line : StraceLine → Waiting → JoinedLine × Waiting
joined_line (line.Unfinished process name beginning) w =
    (joining.Begun (waiting_at (waiting_number process) w), insert_entry nat_cmp w (waiting_number process) beginning)
joined_line (line.Resumed process name end) w = ended_line (waiting_number process) name end w (waiting_at (waiting_number process) w)
joined_line (line.Exited process) w = (joining.Over (waiting_at (waiting_number process) w), not_waiting (waiting_number process) w)
joined_line (line.Superseded process by) w = taken_over (waiting_number process) by w
joined_line (line.Call call) w = (joining.Whole, w)
joined_line line.Silent w = (joining.Whole, w)
joined_line (line.Bad why) w = (joining.Whole, w)
