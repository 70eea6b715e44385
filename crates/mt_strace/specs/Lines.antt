-- What a line of strace's output says (strace(1), "Filtering" and "Tracing").
-- A word with no source is this project's rule.
use Rattle.std.specs.Prelude.{ℕ, nat_le, nat_lt, nat_eq, Bool, false, ◌==◌, ◌&&◌, ◌||◌, if◌then◌else◌, List, [], ◌∷◌, length, Option, None, Some, Result, Ok, Err, codes}
use Rattle.std.specs.List.{list_all, list_any, starts_with, ends_with}
use Rattle.std.specs.Str.{bytes_eq}
use Rattle.mt_strace.specs.declared.line.StraceLine.{StraceLine}
use Rattle.mt_strace.specs.declared.line.StraceLine.TheVariants as line
use Rattle.mt_strace.specs.declared.result.CallResult.{CallResult}
use Rattle.mt_strace.specs.declared.unread.Unread.{Unread}
use Rattle.mt_strace.specs.declared.unread.Unread.TheVariants as unread
use Rattle.mt_strace.specs.Arguments.{arguments_of}
use Rattle.mt_strace.specs.Cuts.{until_byte, cut_at, number_cut, without_spaces, stripped}
use Rattle.mt_strace.specs.Outside.{cut_outside}
use Rattle.mt_strace.specs.Results.{result_of}
use Rattle.mt_strace.specs.Strings.{stripped_end}

-- the process that a line names in front, if it names one, and what is left (strace(1), -f): a number, or `[pid N]`
abbrev pub with_process : List ℕ → Option (ℕ × List ℕ) → Option ℕ × List ℕ
with_process text None = (None, text)
with_process text (Some (process, behind)) = (Some process, without_spaces behind)

abbrev pub process_at : Option (List ℕ) → List ℕ → Option ℕ × List ℕ
process_at (Some behind) text = with_process text (number_cut 93 (without_spaces behind))
process_at None text = with_process text (number_cut 32 text)

abbrev pub process_of : List ℕ → Option ℕ × List ℕ
process_of text = process_at (stripped (codes "[pid ") text) text

-- a time (strace(1), -t, -tt, -ttt, -r): digits, and colons or dots among them
abbrev pub is_digit : ℕ → Bool
is_digit b = nat_le 48 b && nat_le b 57

abbrev pub is_time_point : ℕ → Bool
is_time_point b = b == 58 || b == 46

abbrev pub is_time : List ℕ → Bool
is_time [] = false
is_time (b ∷ word) = is_digit b && list_all (λ d. is_digit d || is_time_point d) word && list_any is_time_point word

abbrev pub behind_time : List ℕ → Option (List ℕ × List ℕ) → List ℕ
behind_time text None = text
behind_time text (Some (word, behind)) = if is_time word then without_spaces behind else text

abbrev pub without_time : List ℕ → List ℕ
without_time text = behind_time text (cut_at 32 text)

-- the name of a call: small letters, digits and `_`, of which no digit is the first
abbrev pub is_letter : ℕ → Bool
is_letter b = (nat_le 97 b && nat_le b 122) || b == 95

abbrev pub is_name_byte : ℕ → Bool
is_name_byte b = is_letter b || is_digit b

abbrev pub is_call_name : List ℕ → Bool
is_call_name [] = false
is_call_name (b ∷ name) = is_letter b && list_all is_name_byte name

-- a text that is no call of strace; perf trace has how long a call took in brackets, in its place
abbrev pub no_call : List ℕ → StraceLine
no_call text = if starts_with nat_eq text (codes "(") then line.Bad unread.PerfTrace else line.Bad unread.NotStrace

-- a call: its name, its arguments between brackets, and its result
abbrev pub call_with : Option ℕ → List ℕ → List ℕ → Result CallResult Unread → StraceLine
call_with process name inside (Ok result) = line.Call (record { process = process; name = name; arguments = arguments_of inside; result = result })
call_with process name inside (Err why) = line.Bad why

abbrev pub call_at : Option ℕ → List ℕ → Option (List ℕ × List ℕ) → StraceLine
call_at process name None = line.Bad unread.Cut
call_at process name (Some (inside, behind)) = call_with process name inside (result_of behind)

abbrev pub named_call : Option ℕ → List ℕ → Option (List ℕ × List ℕ) → StraceLine
named_call process text None = no_call text
named_call process text (Some (name, behind)) = if is_call_name name then call_at process name (cut_outside 41 behind) else no_call text

abbrev pub call_of : Option ℕ → List ℕ → StraceLine
call_of process text = named_call process text (cut_at 40 text)

-- the beginning of a call that another process's line interrupts; strace leaves the last one so where it goes
abbrev pub unfinished_at : Option ℕ → List ℕ → Option (List ℕ × List ℕ) → StraceLine
unfinished_at process beginning None = line.Bad unread.NotStrace
unfinished_at process beginning (Some (name, behind)) =
    if is_call_name name then line.Unfinished process name beginning else line.Bad unread.NotStrace

abbrev pub unfinished_of : Option ℕ → List ℕ → StraceLine
unfinished_of process beginning = unfinished_at process beginning (cut_at 40 beginning)

-- the end of such a call, behind `<... `
abbrev pub resumed_with : Option ℕ → List ℕ → Option (List ℕ) → StraceLine
resumed_with process name None = line.Bad unread.NotStrace
resumed_with process name (Some end) = if is_call_name name then line.Resumed process name end else line.Bad unread.NotStrace

abbrev pub resumed_at : Option ℕ → Option (List ℕ × List ℕ) → StraceLine
resumed_at process None = line.Bad unread.Cut
resumed_at process (Some (name, behind)) = resumed_with process name (stripped (codes "resumed>") behind)

-- the end of a process, behind `+++ `; or that another of its threads has called execve, which goes on under its number
abbrev pub superseded_with : Option ℕ → Option (ℕ × List ℕ) → StraceLine
superseded_with process None = line.Bad unread.NotStrace
superseded_with process (Some (by, behind)) = line.Superseded process by

abbrev pub exit_at : Option ℕ → List ℕ → Option (List ℕ) → StraceLine
exit_at process text (Some behind) = superseded_with process (number_cut 32 behind)
exit_at process text None =
    if starts_with nat_eq text (codes "exited with ") || starts_with nat_eq text (codes "killed by ") then line.Exited process else line.Bad unread.NotStrace

abbrev pub exit_of : Option ℕ → List ℕ → StraceLine
exit_of process text = exit_at process text (stripped (codes "superseded by execve in pid ") text)

-- what a line says behind the process and the time: `+++` of a process's end, `---` of a signal, `<...` of the end of a call
abbrev pub begun_or_whole : Option ℕ → List ℕ → Option (List ℕ) → Option (List ℕ) → StraceLine
begun_or_whole process text (Some beginning) detached = unfinished_of process beginning
begun_or_whole process text None (Some beginning) = unfinished_of process beginning
begun_or_whole process text None None = call_of process text

abbrev pub call_line : Option ℕ → List ℕ → StraceLine
call_line process text = begun_or_whole process text (stripped_end (codes " <unfinished ...>") text) (stripped_end (codes " <detached ...>") text)

abbrev pub resumed_or_call : Option ℕ → List ℕ → Option (List ℕ) → StraceLine
resumed_or_call process text (Some behind) = resumed_at process (cut_at 32 behind)
resumed_or_call process text None = if starts_with nat_eq text (codes "--- ") then line.Silent else call_line process text

abbrev pub exit_or_call : Option ℕ → List ℕ → Option (List ℕ) → StraceLine
exit_or_call process text (Some behind) = exit_of process behind
exit_or_call process text None = resumed_or_call process text (stripped (codes "<... ") text)

abbrev pub body_of : Option ℕ → List ℕ → StraceLine
body_of process text = exit_or_call process text (stripped (codes "+++ ") text)

-- a line that says nothing of a process: nothing but spaces, or a message of strace itself, by whichever path it was called
abbrev pub is_message : List ℕ → Bool
is_message text =
    length text == 0 || bytes_eq (until_byte 32 text) (codes "strace:")
    || (starts_with nat_eq text (codes "/") && ends_with nat_eq (until_byte 32 text) (codes "/strace:"))

abbrev pub headed : Option ℕ × List ℕ → StraceLine
headed (process, text) = body_of process (without_time text)

-- a line without the spaces in front; those of the audit system begin with a type
abbrev pub line_behind : List ℕ → StraceLine
line_behind text =
    if is_message text then line.Silent else (if starts_with nat_eq text (codes "type=") then line.Bad unread.Audit else headed (process_of text))

-- what a line says, without its line end: of at most 65,536 bytes, none of them zero, as strace writes none
abbrev pub strace_line_of : List ℕ → StraceLine
strace_line_of text =
    if nat_lt 65536 (length text) then line.Bad unread.TooLong
    else (if list_any (λ b. b == 0) text then line.Bad unread.Binary else line_behind (without_spaces text))
