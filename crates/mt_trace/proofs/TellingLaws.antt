-- What is told stands behind what was told before, and a call is counted by what it asks and by its result.
use Rattle.std.proofs.Common.{◌≡◌, ℕ, Bool, true, false, List, ◌++◌, Option, None, Some, ap, ◌∙◌, inl, inr}
use Rattle.mt_strace.specs.declared.call.TracedCall.{TracedCall}
use Rattle.mt_render.specs.Wording.{shown_line}
use Rattle.mt_trace.specs.declared.account.TraceForm.{TraceForm}
use Rattle.mt_trace.specs.declared.account.TraceForm.TheVariants as form
use Rattle.mt_trace.specs.declared.account.CallOrigin.{CallOrigin}
use Rattle.mt_trace.specs.declared.lines_played.Trouble.{Trouble}
use Rattle.mt_trace.specs.declared.system_call.AskedCall.TheVariants as asked
use Rattle.mt_trace.specs.declared.system_call.SystemCall.{SystemCall}
use Rattle.mt_trace.specs.declared.tally.Tally.{Tally}
use Rattle.mt_trace.specs.declared.written.CallOutcome.{CallOutcome}
use Rattle.mt_trace.specs.declared.written.CallOutcome.TheVariants as outcome
use Rattle.mt_trace.specs.Asking.{asked_by_call}
use Rattle.mt_trace.specs.Counting.{Counting, Uncounted, As, Once, IsCountedAs, IsTallied, asked_counting, result_counting, done_counting, call_counting, bad_counted, bad_if}
use Rattle.mt_trace.specs.Failures.{is_failed}
use Rattle.mt_trace.specs.Telling.{IsAppended, IsCallLine, IsAccountTold, IsCallTold, account_line}
use Rattle.mt_trace.specs.Texts.{call_told}
use Rattle.mt_trace.specs.ToldPaths.{child_of}

line_appended : (front : List ℕ) (origin : CallOrigin) (said old new : List ℕ) → IsCallLine front origin said old new → IsAppended old new
line_appended front origin said old new l = record { more = shown_line (account_line front origin said l.notes) ++ l.behind; text = l.text }

told_appended : (form : TraceForm) (origin : CallOrigin) (said : List ℕ) (o : CallOutcome) (old new : List ℕ) → IsAccountTold form origin said o old new → IsAppended old new
told_appended form.Words origin said o old new t = line_appended _ origin said old new t
told_appended form.Json origin said o old new t = t
told_appended form.Script origin said o old new t = line_appended _ origin said old new t

pub call_appended : (b : Bool) (form : TraceForm) (origin : CallOrigin) (c : TracedCall) (old new : List ℕ) → IsCallTold b form origin c old new → IsAppended old new
call_appended true form origin c old new t = told_appended form origin (call_told c) t.outcome old new t.told
call_appended false form origin c old new t = t

-- a call that did not fail is counted as one that was done
pub counting_done :
    (c : TracedCall) (x : SystemCall) (early : List ℕ) → asked_by_call c ≡ asked.Call x → is_failed c.result ≡ false
    → call_counting c early ≡ done_counting x (child_of c.result) early
counting_done c x early e f = ap (λ a. asked_counting a c early) e ∙ ap (λ b. result_counting b x (child_of c.result) early) f

-- what is counted of a call beside a line that is none
bad_as : (o : CallOutcome) (before after : Tally) → IsCountedAs o before after → IsCountedAs o (bad_counted before) (bad_counted after)
bad_as outcome.Played before after e = ap bad_counted e
bad_as outcome.Told before after e = ap bad_counted e
bad_as outcome.Differing before after e = ap bad_counted e
bad_as outcome.Failed before after e = ap bad_counted e

bad_counted_beside : (k : Counting) (before after : Tally) → IsTallied k before after → IsTallied k (bad_counted before) (bad_counted after)
bad_counted_beside Uncounted before after e = ap bad_counted e
bad_counted_beside (As o) before after e = bad_as o before after e
bad_counted_beside Once before after (inl e) = inl (ap bad_counted e)
bad_counted_beside Once before after (inr (inl e)) = inr (inl (ap bad_counted e))
bad_counted_beside Once before after (inr (inr e)) = inr (inr (ap bad_counted e))

pub bad_if_beside : (k : Counting) (why : Option Trouble) (before after : Tally) → IsTallied k before after → IsTallied k (bad_if why before) (bad_if why after)
bad_if_beside k None before after counted = counted
bad_if_beside k (Some why) before after counted = bad_counted_beside k before after counted
