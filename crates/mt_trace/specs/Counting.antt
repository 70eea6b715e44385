-- How calls and lines are counted: each once, as what came of it.
-- A word with no source is this project's rule.
use Rattle.std.specs.Prelude.{ℕ, ◌==◌, ◌+◌, ◌-◌, ◌^◌, min, ◌≡◌, ◌⊎◌, Bool, true, false, not, List, [], ◌∷◌, ◌++◌, filter, Option, None, Some, Result, Ok, Err}
use Rattle.std.specs.List.{list_any}
use Rattle.std.specs.Option.{unwrap_or}
use Rattle.mt_strace.specs.declared.call.TracedCall.{TracedCall}
use Rattle.mt_strace.specs.declared.line.StraceLine.{StraceLine}
use Rattle.mt_strace.specs.declared.line.StraceLine.TheVariants as line
use Rattle.mt_strace.specs.Lines.{call_of}
use Rattle.mt_trace.specs.declared.call_name.CallName.{CallName}
use Rattle.mt_trace.specs.declared.call_name.CallName.TheVariants as name
use Rattle.mt_trace.specs.declared.joining.JoinedLine.{JoinedLine}
use Rattle.mt_trace.specs.declared.joining.JoinedLine.TheVariants as joining
use Rattle.mt_trace.specs.declared.lines_played.Trouble.{Trouble}
use Rattle.mt_trace.specs.declared.lines_played.Trouble.TheVariants as trouble
use Rattle.mt_trace.specs.declared.system_call.AskedCall.{AskedCall}
use Rattle.mt_trace.specs.declared.system_call.AskedCall.TheVariants as asked
use Rattle.mt_trace.specs.declared.system_call.SystemCall.{SystemCall}
use Rattle.mt_trace.specs.declared.system_call.SystemCall.TheVariants as call
use Rattle.mt_trace.specs.declared.tally.Tally.{Tally}
use Rattle.mt_trace.specs.declared.told.Halt.{Halt}
use Rattle.mt_trace.specs.declared.told.Halt.TheVariants as halt
use Rattle.mt_trace.specs.declared.told.Told.TheVariants as told
use Rattle.mt_trace.specs.declared.written.CallOutcome.{CallOutcome}
use Rattle.mt_trace.specs.declared.written.CallOutcome.TheVariants as outcome
use Rattle.mt_trace.specs.Asking.{asked_by_call}
use Rattle.mt_trace.specs.CallNames.{call_named}
use Rattle.mt_trace.specs.Failures.{is_failed}
use Rattle.mt_trace.specs.Players.{PlayerView, IsSameSetting}
use Rattle.mt_trace.specs.ToldPaths.{child_of}

-- one more, up to the greatest number
abbrev pub one_more : ℕ → ℕ
one_more n = min (n + 1) (2 ^ 64 - 1)

-- one more call of which this came; one that the model alone refuses is also one that was not played
abbrev pub tallied : CallOutcome → Tally → Tally
tallied outcome.Played t = record t { played = one_more t.played }
tallied outcome.Told t = record t { told = one_more t.told }
tallied outcome.Differing t = record t { told = one_more t.told; differing = one_more t.differing }
tallied outcome.Failed t = record t { failed = one_more t.failed }

-- one more line that is none
abbrev pub bad_counted : Tally → Tally
bad_counted t = record t { bad = one_more t.bad }

-- the counts of calls and lines, without that of mounts that were changed elsewhere
abbrev pub line_counts : Tally → Tally
line_counts t = record t { elsewhere = 0 }

-- nothing was counted but mounts; a call was counted as one of which this came; a call that returned was counted once: as one that
-- was played, that was not, or that the model alone refuses
abbrev pub IsUncounted : Tally → Tally → Type 0
IsUncounted before after = line_counts after ≡ line_counts before

abbrev pub IsCountedAs : CallOutcome → Tally → Tally → Type 0
IsCountedAs o before after = line_counts after ≡ line_counts (tallied o before)

abbrev pub IsCountedOnce : Tally → Tally → Type 0
IsCountedOnce before after = IsCountedAs outcome.Played before after ⊎ IsCountedAs outcome.Told before after ⊎ IsCountedAs outcome.Differing before after

-- only mounts were counted; all else is as it was
pub record KeepsCounts (before after : PlayerView) : Type 0 where
  pub tally : IsUncounted before.tally after.tally
  pub setting : IsSameSetting before after
  pub state : after.state ≡ before.state
  pub waiting : after.waiting ≡ before.waiting
  pub early : after.early ≡ before.early

-- what came of a call that was played as far as it went
abbrev pub outcome_of : Result Unit Halt → CallOutcome
outcome_of (Ok done) = outcome.Played
outcome_of (Err (halt.Told (told.Refused why))) = outcome.Differing
outcome_of (Err other) = outcome.Told

-- the calls that are told, whether they are played or not: they may change a table, or the place of all that comes later
abbrev pub is_loud : SystemCall → Bool
is_loud (call.Mount source target kind operation options) = true
is_loud (call.Umount path words) = true
is_loud (call.PivotRoot new old) = true
is_loud (call.MountSetattr at path follows change) = true
is_loud (call.OpenTree at path words) = true
is_loud (call.MoveMount from source to target words) = true
is_loud (call.Fsmount context set closes_on_exec) = true
is_loud (call.Unshare words) = true
is_loud (call.Setns space kinds) = true
is_loud (call.Chroot path) = true
is_loud (call.Clone words) = words.mount
is_loud other = false

-- the calls that are told by their names, where it is not known what they ask
abbrev pub is_told_name : CallName → Bool
is_told_name name.Mount = true
is_told_name name.Umount = true
is_told_name name.Umount2 = true
is_told_name name.PivotRoot = true
is_told_name name.MountSetattr = true
is_told_name name.OpenTree = true
is_told_name name.MoveMount = true
is_told_name name.Fsmount = true
is_told_name name.Unshare = true
is_told_name name.Setns = true
is_told_name name.Chroot = true
is_told_name other = false

abbrev pub is_told_if_named : Option CallName → Bool
is_told_if_named None = false
is_told_if_named (Some n) = is_told_name n

-- what a call is counted as: not at all, as one of which this came, or once, as what came of it
pub data Counting : Type 0 where
  Uncounted : Counting
  As : CallOutcome → Counting
  Once : Counting

abbrev pub IsTallied : Counting → Tally → Tally → Type 0
IsTallied Uncounted before after = IsUncounted before after
IsTallied (As o) before after = IsCountedAs o before after
IsTallied Once before after = IsCountedOnce before after

abbrev pub counting_if : Bool → Counting → Counting
counting_if false counting = Uncounted
counting_if true counting = counting

-- a clone that makes a namespace of mounts, by its child: one that began before the end of the call was counted then, and one of which
-- the number is not known is a call that failed
abbrev pub clone_counting : Bool → Option ℕ → List ℕ → Counting
clone_counting false child early = Uncounted
clone_counting true None early = As outcome.Failed
clone_counting true (Some child) early = counting_if (not (list_any (λ other. other == child) early)) Once

-- a call that returned, one that failed: each is counted once if it is one that is told
abbrev pub done_counting : SystemCall → Option ℕ → List ℕ → Counting
done_counting (call.Clone words) child early = clone_counting words.mount child early
done_counting other child early = counting_if (is_loud other) Once

abbrev pub result_counting : Bool → SystemCall → Option ℕ → List ℕ → Counting
result_counting true asked child early = counting_if (is_loud asked) (As outcome.Failed)
result_counting false asked child early = done_counting asked child early

-- a call, given the children that began early; of one that is told, and of which it is not known what it asks, it is told why it is not
-- played
abbrev pub unknown_counting : TracedCall → Counting
unknown_counting c = counting_if (is_told_if_named (call_named c.name)) (As outcome.Told)

abbrev pub asked_counting : AskedCall → TracedCall → List ℕ → Counting
asked_counting asked.Silent c early = Uncounted
asked_counting (asked.Unknown why) c early = unknown_counting c
asked_counting (asked.Call x) c early = result_counting (is_failed c.result) x (child_of c.result) early

abbrev pub call_counting : TracedCall → List ℕ → Counting
call_counting c early = asked_counting (asked_by_call c) c early

-- the children that began early, once the end of the call that has made one of them came
abbrev pub early_without : Option ℕ → List ℕ → List ℕ
early_without None early = early
early_without (Some child) early = filter (λ other. not (child == other)) early

abbrev pub early_after_done : SystemCall → Option ℕ → List ℕ → List ℕ
early_after_done (call.Clone words) child early = early_without child early
early_after_done other child early = early

abbrev pub early_after_asked : Bool → AskedCall → Option ℕ → List ℕ → List ℕ
early_after_asked false (asked.Call x) child early = early_after_done x child early
early_after_asked failed other child early = early

abbrev pub early_after_call : TracedCall → List ℕ → List ℕ
early_after_call c early = early_after_asked (is_failed c.result) (asked_by_call c) (child_of c.result) early

-- the first line of a child counts the call that has made it, where that has begun and its end comes later: the children that began
-- early, and what was counted, before and after
abbrev pub IsChildCounted : ℕ → List ℕ → Tally → List ℕ → Tally → Type 0
IsChildCounted child early before early' after =
    ((early' ≡ early) × IsUncounted before after) ⊎ ((early' ≡ early ++ child ∷ []) × (IsUncounted before after ⊎ IsCountedOnce before after))

-- the process whose call a line ends, if strace tells it
abbrev pub ender_of : StraceLine → Option ℕ
ender_of (line.Resumed process name end) = process
ender_of other = None

-- the call that a line ends, or what else it says
abbrev pub line_ended : StraceLine → JoinedLine → StraceLine
line_ended l joining.Whole = l
line_ended l (joining.Ended text) = call_of (ender_of l) text
line_ended l other = line.Silent

-- what is wrong with a line: it is none of strace, it ends what has not begun, or something that has begun has no end
abbrev pub read_trouble : StraceLine → Option Trouble
read_trouble (line.Bad why) = Some (trouble.Unread why)
read_trouble other = None

abbrev pub line_trouble : StraceLine → JoinedLine → Option Trouble
line_trouble l (joining.Begun (Some lost)) = Some (trouble.Lost lost)
line_trouble l joining.Unbegun = Some trouble.Unbegun
line_trouble l joined = read_trouble (line_ended l joined)

-- a line is counted once: by the call that it ends, as bad, or not at all
abbrev pub line_counting : StraceLine → List ℕ → Counting
line_counting (line.Call c) early = call_counting c early
line_counting other early = Uncounted

abbrev pub bad_if : Option Trouble → Tally → Tally
bad_if None t = t
bad_if (Some why) t = bad_counted t

abbrev pub early_after_read : StraceLine → List ℕ → List ℕ
early_after_read (line.Call c) early = early_after_call c early
early_after_read other early = early

-- the process of a line that begins a call, or ends the process
abbrev pub beginner_of : StraceLine → Option ℕ
beginner_of (line.Call c) = Some (unwrap_or c.process 0)
beginner_of (line.Unfinished process name beginning) = Some (unwrap_or process 0)
beginner_of (line.Exited process) = Some (unwrap_or process 0)
beginner_of other = None

abbrev pub IsBeginnerCounted : Option ℕ → List ℕ → Tally → List ℕ → Tally → Type 0
IsBeginnerCounted None early before early' after = (early' ≡ early) × IsUncounted before after
IsBeginnerCounted (Some process) early before early' after = IsChildCounted process early before early' after
