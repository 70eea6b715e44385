-- What strace tells a descriptor to lead to (strace(1), -y), and the number of a child (strace(1), --decode-pids).
-- A word with no source is this project's rule.
use Rattle.std.specs.Prelude.{ℕ, nat_eq, if◌then◌else◌, ◌==◌, List, [], ◌∷◌, length, Option, None, codes}
use Rattle.std.specs.List.{starts_with}
use Rattle.std.specs.Option.{option_and_then, option_map, option_map_or}
use Rattle.mt_lines.specs.Words.{pieces, number_in_text}
use Rattle.mt_strace.specs.declared.result.CallResult.{CallResult}
use Rattle.mt_strace.specs.declared.result.CallResult.TheVariants as outcome
use Rattle.mt_strace.specs.Cuts.{stripped}
use Rattle.mt_strace.specs.Strings.{stripped_end}
use Rattle.mt_trace.specs.declared.process_spaces.SpaceKind.{SpaceKind}
use Rattle.mt_trace.specs.declared.told_path.ToldPath.{ToldPath}
use Rattle.mt_trace.specs.declared.told_path.ToldPath.TheVariants as told
use Rattle.mt_trace.specs.ProcessSpaces.{kind_of_file}

-- a namespace: its kind, and its number between brackets, as in mnt:[4026532205] (namespaces(7))
abbrev pub number_between : List ℕ → List ℕ → List ℕ → Option ℕ
number_between front end text = option_and_then (λ behind. option_and_then number_in_text (stripped_end end behind)) (stripped front text)

abbrev pub number_in_brackets : List ℕ → Option ℕ
number_in_brackets text = number_between (codes "[") (codes "]") text

abbrev pub namespace_with : List (List ℕ) → Option (SpaceKind × ℕ)
namespace_with (word ∷ text ∷ []) = option_and_then (λ kind. option_map (λ n. (kind, n)) (number_in_brackets text)) (kind_of_file word)
namespace_with pieces = None

abbrev pub namespace_told : List ℕ → Option (SpaceKind × ℕ)
namespace_told text = namespace_with (pieces 58 text)

-- a path, a namespace, or something that is neither, as a pipe
abbrev pub told_path : List ℕ → ToldPath
told_path text =
    if starts_with nat_eq text (codes "/") then told.Path text else option_map_or (λ (kind, n). told.Space kind n) (namespace_told text) told.Other

-- the number that strace has for a child: what the call returned, unless that is a number of another namespace, where a comment
-- says it
abbrev pub number_in_comment : List ℕ → Option ℕ
number_in_comment notes = number_between (codes " /* ") (codes " in strace's PID NS */") notes

abbrev pub child_of : CallResult → Option ℕ
child_of (outcome.Returned value path is_deleted notes) = if length notes == 0 then value else number_in_comment notes
child_of (outcome.Failed error notes) = None
child_of outcome.Unknown = None
