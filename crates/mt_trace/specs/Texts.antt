-- What is told of a call, and the last line of a trace.
-- A word with no source is this project's rule.
use Rattle.std.specs.Prelude.{ℕ, ◌==◌, if◌then◌else◌, List, [], ◌∷◌, ◌++◌, Option, None, Some, codes, decimal}
use Rattle.mt_strace.specs.declared.call.TracedCall.{TracedCall}
use Rattle.mt_strace.specs.declared.result.CallResult.{CallResult}
use Rattle.mt_strace.specs.declared.result.CallResult.TheVariants as outcome
use Rattle.mt_strace.specs.Printed.{arguments_text}
use Rattle.mt_trace.specs.declared.tally.Tally.{Tally}

-- a call as strace has it, without its process: of its result the value or the error alone
abbrev pub value_told : Option ℕ → List ℕ
value_told None = codes ".."
value_told (Some n) = decimal n

abbrev pub result_told : CallResult → List ℕ
result_told (outcome.Returned value path is_deleted notes) = value_told value
result_told (outcome.Failed error notes) = codes "-1 " ++ error
result_told outcome.Unknown = codes "?"

unfoldable pub call_told : TracedCall → List ℕ
call_told c = c.name ++ 40 ∷ (arguments_text c.arguments ++ (codes ") = " ++ result_told c.result))

-- the last line of a trace
abbrev pub with_count : List ℕ → ℕ → List ℕ
with_count words n = words ++ decimal n

abbrev pub differing_told : ℕ → List ℕ
differing_told n = if n == 0 then [] else with_count (codes "; refused by the model alone: ") n

unfoldable pub played_words : Tally → List ℕ
played_words t = with_count (codes "played: ") t.played ++ (with_count (codes "; not played: ") t.told ++ with_count (codes "; failed: ") t.failed)

unfoldable pub trouble_words : Tally → List ℕ
trouble_words t = with_count (codes "; changes elsewhere: ") t.elsewhere ++ (with_count (codes "; bad lines: ") t.bad ++ differing_told t.differing)

abbrev pub tally_words : Tally → List ℕ
tally_words t = played_words t ++ trouble_words t
