-- What comes of a line: which commands it leads to, and which of them is refused.
-- A word with no source is this project's rule.
use Rattle.std.specs.Prelude.{◌≡◌, ◌⊎◌, ℕ, ◌&&◌, if◌then◌else◌, List, [], ◌∷◌, Option, unwrap_or, Result, Ok, Err, decimal}
use Rattle.mt_lines.specs.Words.{pieces}
use Rattle.mt_skel.specs.Names.{is_label}
use Rattle.mt_skel.specs.declared.fault.Fault.{Fault}
use Rattle.mt_skel.specs.declared.fault.Fault.TheVariants.{BadLine, TooLong, NotMountRoot}
use Rattle.mt_forms.specs.Scripts.{later_text}
use Rattle.mt_forms.specs.declared.operation.Operation.{Operation}
use Rattle.mt_forms.specs.declared.operation.Operation.TheVariants as operation
use Rattle.mt_requests.specs.Requests.{request_of}
use Rattle.mt_requests.specs.declared.request.Request.{Request}
use Rattle.mt_requests.specs.declared.request.Request.TheVariants.{Run}
use Rattle.mt_questions.specs.Tables.{ToldTable}
use Rattle.mt_book.specs.declared.command.Command.{Command}
use Rattle.mt_what_if.specs.Provided.{unknown_type, filesystem_given, command_given}
use Rattle.mt_what_if.specs.Scripts.{filesystem_in, IsScriptWith, HasNoScript}
use Rattle.mt_what_if.specs.Trials.{TrialView, Ended, world_after, last_space, attempt, all_done, stopped, then_tried}
use Rattle.mt_what_if.specs.declared.asked.AskedLine.{AskedLine}
use Rattle.mt_what_if.specs.declared.trying.Outcome.{Outcome}
use Rattle.mt_what_if.specs.declared.trying.Outcome.TheVariants.{Done, Refused}

-- a command is tried once it is given what it needs and is not there
unfoldable pub command_run : TrialView → Command → Ended
command_run t c = then_tried (command_given t c) (λ u. attempt u c)

-- a line of a session is the command that it says, and is refused where it says none; the empty line after the last one does nothing
abbrev pub request_run : TrialView → Result Request Fault → Ended
request_run t (Ok (Run c)) = command_run t c
request_run t (Ok request) = stopped t BadLine
request_run t (Err fault) = stopped t fault

unfoldable pub line_run : TrialView → List ℕ → Ended
line_run t [] = all_done t
line_run t (b ∷ line) = request_run t (request_of (b ∷ line))

-- several lines, one after another
abbrev pub lines_run : TrialView → List (List ℕ) → Ended
lines_run t [] = all_done t
lines_run t (line ∷ lines) = then_tried (line_run t line) (λ u. lines_run u lines)

unfoldable pub script_run : TrialView → List ℕ → Ended
script_run t script = lines_run t (pieces 10 script)

-- the lines of a session that a line asks for once the last namespace is there
unfoldable pub later_run : TrialView → Operation → Ended
later_run t asked = script_run t (later_text asked (decimal (last_space (world_after t))))

unfoldable pub scripts_run : TrialView → Operation → List ℕ → Ended
scripts_run t asked script = then_tried (script_run t script) (λ u. later_run u asked)

-- a line of mount(8) is given the filesystem of its source, of the type that it says; both are to be labels
abbrev pub named_given : TrialView → List ℕ → List ℕ → Ended
named_given t name kind = if is_label name && is_label kind then filesystem_given t name kind else stopped t TooLong

unfoldable pub source_given : List ℕ → Operation → TrialView → Ended
source_given fs (operation.Mount source kind to said propagation) t = named_given t fs (unwrap_or kind unknown_type)
source_given fs asked t = all_done t

-- then the lines of a session that it asks for are tried, if it asks for any: an unmount may name no mount
abbrev pub IsScriptTried : List ℕ → AskedLine → TrialView → Ended → Type 0
IsScriptTried fs line t e =
    (HasNoScript fs (world_after t) line × (e ≡ stopped t NotMountRoot))
    ⊎ ((script : List ℕ) × IsScriptWith fs (world_after t) line script × (e ≡ scripts_run t line.asked.operation script))

abbrev pub IsTriedAfter : Outcome → TrialView → (TrialView → Ended → Type 0) → Ended → Type 0
IsTriedAfter Done t P e = P t e
IsTriedAfter (Refused fault) t P e = e ≡ stopped t fault

abbrev pub IsTriedBehind : Ended → (TrialView → Ended → Type 0) → Ended → Type 0
IsTriedBehind before P e = IsTriedAfter before.outcome before.trial P e

abbrev pub IsLineWith : List ℕ → AskedLine → TrialView → Ended → Type 0
IsLineWith fs line t e = IsTriedBehind (source_given fs line.asked.operation t) (IsScriptTried fs line) e

-- what comes of a line: all of its commands are done, or one of them is refused with the fault that its step has (mt_book), in the world
-- after those before it; of that one nothing has changed
abbrev pub IsLineTried : List ToldTable → AskedLine → TrialView → Ended → Type 0
IsLineTried tables line t e = IsLineWith (filesystem_in line.asked.operation tables) line t e
