-- What is told of calls, each under its line and its process, as strace has it, behind all that was told before.
-- A word with no source is this project's rule.
use Rattle.std.specs.Prelude.{ℕ, ◌≡◌, Bool, true, false, not, List, [], ◌∷◌, ◌++◌, codes, decimal}
use Rattle.std.specs.List.{flat_map}
use Rattle.std.specs.Option.{unwrap_or}
use Rattle.mt_strace.specs.declared.call.TracedCall.{TracedCall}
use Rattle.mt_strace.specs.declared.line.StraceLine.{StraceLine}
use Rattle.mt_strace.specs.declared.line.StraceLine.TheVariants as line
use Rattle.mt_render.specs.Wording.{shown_line}
use Rattle.mt_trace.specs.declared.account.TraceForm.{TraceForm}
use Rattle.mt_trace.specs.declared.account.TraceForm.TheVariants as form
use Rattle.mt_trace.specs.declared.account.CallOrigin.{CallOrigin}
use Rattle.mt_trace.specs.declared.written.CallOutcome.{CallOutcome}
use Rattle.mt_trace.specs.declared.written.CallOutcome.TheVariants as outcome
use Rattle.mt_trace.specs.Counting.{Counting, Uncounted, As, Once, call_counting}
use Rattle.mt_trace.specs.Players.{PlayerView}
use Rattle.mt_trace.specs.Texts.{call_told}

-- what was told before stays, and something may stand behind it
pub record IsAppended (old new : List ℕ) : Type 0 where
  pub more : List ℕ
  pub text : new ≡ old ++ more

-- the line of a call: its number, its process, the call, and what is noted of it, each note behind a sharp
abbrev pub notes_text : List (List ℕ) → List ℕ
notes_text notes = flat_map (λ note. codes "  # " ++ note) notes

abbrev pub call_origin_text : CallOrigin → List ℕ
call_origin_text origin = decimal origin.line ++ 32 ∷ (decimal origin.process ++ 32 ∷ [])

abbrev pub account_line : List ℕ → CallOrigin → List ℕ → List (List ℕ) → List ℕ
account_line front origin said notes = front ++ (call_origin_text origin ++ (said ++ notes_text notes))

-- in front of it is a sign where the kernel did what the model refuses
abbrev pub differing_sign : CallOutcome → List ℕ
differing_sign outcome.Differing = codes "? "
differing_sign other = []

-- in words: that line, and those of what the call changes; in a script: a comment, and the lines of its commands
pub record IsCallLine (front : List ℕ) (origin : CallOrigin) (said old new : List ℕ) : Type 0 where
  pub notes : List (List ℕ)
  pub behind : List ℕ
  pub text : new ≡ old ++ (shown_line (account_line front origin said notes) ++ behind)

abbrev pub IsAccountTold : TraceForm → CallOrigin → List ℕ → CallOutcome → List ℕ → List ℕ → Type 0
IsAccountTold form.Words origin said o old new = IsCallLine (differing_sign o) origin said old new
IsAccountTold form.Script origin said o old new = IsCallLine (codes "# ") origin said old new
IsAccountTold form.Json origin said o old new = IsAppended old new

-- a call may be left out where only those are told that change another namespace
abbrev pub IsTextTold : Bool → TraceForm → CallOrigin → List ℕ → CallOutcome → List ℕ → List ℕ → Type 0
IsTextTold true form origin said o old new = IsAccountTold form origin said o old new
IsTextTold false form origin said o old new = IsAppended old new

abbrev pub is_told_of : Bool → Counting → Bool
is_told_of only_leaks Uncounted = false
is_told_of only_leaks (As o) = not only_leaks
is_told_of only_leaks Once = not only_leaks

-- a call that is counted is told, as one of which something came
pub record IsToldOnce (form : TraceForm) (origin : CallOrigin) (said old new : List ℕ) : Type 0 where
  pub outcome : CallOutcome
  pub told : IsAccountTold form origin said outcome old new

abbrev pub IsCallTold : Bool → TraceForm → CallOrigin → TracedCall → List ℕ → List ℕ → Type 0
IsCallTold true form origin c old new = IsToldOnce form origin (call_told c) old new
IsCallTold false form origin c old new = IsAppended old new

abbrev pub call_origin : ℕ → TracedCall → CallOrigin
call_origin number c = record { line = number; process = unwrap_or c.process 0 }

abbrev pub IsLineTold : PlayerView → ℕ → StraceLine → List ℕ → List ℕ → Type 0
IsLineTold p number (line.Call c) old new = IsCallTold (is_told_of p.only_leaks (call_counting c p.early)) p.form (call_origin number c) c old new
IsLineTold p number other old new = IsAppended old new
