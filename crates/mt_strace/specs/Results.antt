-- The result of a call (strace(1)).
-- A word with no source is this project's rule.
use Rattle.std.specs.Prelude.{ℕ, nat_eq, ◌==◌, Bool, true, false, ◌&&◌, ◌||◌, not, if◌then◌else◌, List, length, drop, Option, None, Some, is_some, Result, Ok, Err, codes}
use Rattle.std.specs.List.{list_all, starts_with, ends_with}
use Rattle.std.specs.Option.{option_map_or}
use Rattle.std.specs.Str.{bytes_eq}
use Rattle.mt_lines.specs.Words.{number_in_text}
use Rattle.mt_strace.specs.declared.result.CallResult.{CallResult}
use Rattle.mt_strace.specs.declared.result.CallResult.TheVariants as outcome
use Rattle.mt_strace.specs.declared.result.Behind.{Behind}
use Rattle.mt_strace.specs.declared.unread.Unread.{Unread}
use Rattle.mt_strace.specs.declared.unread.Unread.TheVariants as unread
use Rattle.mt_strace.specs.Cuts.{until_byte, cut_at, without_spaces, stripped}
use Rattle.mt_strace.specs.Strings.{hex_value}

-- a value that is an address or a set of bits: `0x` and hexadecimal digits
abbrev pub is_address : List ℕ → Bool
is_address word = option_map_or (λ digits. not (length digits == 0) && list_all (λ b. is_some (hex_value b)) digits) (stripped (codes "0x") word) false

-- a note ends with what closes it, and the notes of a result begin with a space, if there are any
abbrev pub is_note_closed : List ℕ → Bool
is_note_closed note = ends_with nat_eq note (codes ")") || ends_with nat_eq note (codes "*/") || ends_with nat_eq note (codes ">")

abbrev pub are_notes : List ℕ → Bool
are_notes text = length text == 0 || (starts_with nat_eq text (codes " ") && is_note_closed text)

-- what stands behind a value: the path of a descriptor, if there is one, and notes; none if the path is not whole
abbrev pub path_and_notes : List ℕ → Option (List ℕ) → List ℕ → Behind
path_and_notes path (Some notes) behind = record { path = Some path; is_deleted = true; notes = notes }
path_and_notes path None behind = record { path = Some path; is_deleted = false; notes = behind }

abbrev pub with_path : Option (List ℕ × List ℕ) → Option Behind
with_path None = None
with_path (Some (path, behind)) = Some (path_and_notes path (stripped (codes "(deleted)") behind) behind)

abbrev pub behind_value : Option (List ℕ) → List ℕ → Option Behind
behind_value (Some text) behind = with_path (cut_at 62 text)
behind_value None behind = Some (record { path = None; is_deleted = false; notes = behind })

-- a value that was returned: a number, if it is not in hexadecimal digits
abbrev pub returned_with : Option ℕ → Option Behind → Result CallResult Unread
returned_with value None = Err unread.Cut
returned_with value (Some behind) =
    if are_notes behind.notes then Ok (outcome.Returned value behind.path behind.is_deleted behind.notes) else Err unread.Cut

abbrev pub value_word : List ℕ → List ℕ
value_word text = until_byte 60 (until_byte 32 text)

abbrev pub returned_behind : List ℕ → List ℕ → Result CallResult Unread
returned_behind word behind =
    if is_some (number_in_text word) || is_address word then returned_with (number_in_text word) (behind_value (stripped (codes "<") behind) behind)
    else Err unread.NotStrace

abbrev pub returned : List ℕ → Result CallResult Unread
returned text = returned_behind (value_word text) (drop (length (value_word text)) text)

-- a call that failed: a number below 0, the name of the error and its meaning
abbrev pub failed_with : Option (List ℕ × List ℕ) → Result CallResult Unread
failed_with None = Err unread.Cut
failed_with (Some (digits, notes)) =
    if is_some (number_in_text digits) then (if is_note_closed notes then Ok (outcome.Failed (until_byte 32 notes) notes) else Err unread.Cut) else Err unread.NotStrace

-- a call of which strace did not see the end
abbrev pub unknown_with : List ℕ → Result CallResult Unread
unknown_with behind = if length behind == 0 || starts_with nat_eq behind (codes " ") then Ok outcome.Unknown else Err unread.NotStrace

abbrev pub signed_or_returned : Option (List ℕ) → List ℕ → Result CallResult Unread
signed_or_returned (Some digits) text = failed_with (cut_at 32 digits)
signed_or_returned None text = returned text

abbrev pub valued : Option (List ℕ) → List ℕ → Result CallResult Unread
valued (Some behind) text = unknown_with behind
valued None text = if length text == 0 then Err unread.Cut else signed_or_returned (stripped (codes "-") text) text

-- what stands behind the bracket that closes the arguments; where nothing does, or only `=`, the line was cut off
abbrev pub result_at : Option (List ℕ) → List ℕ → Result CallResult Unread
result_at (Some text) rest = valued (stripped (codes "?") text) text
result_at None rest = if length rest == 0 || bytes_eq rest (codes "=") then Err unread.Cut else Err unread.NotStrace

abbrev pub result_of : List ℕ → Result CallResult Unread
result_of behind = result_at (stripped (codes "= ") (without_spaces behind)) (without_spaces behind)
