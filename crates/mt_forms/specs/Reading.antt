-- The words after a program, as its table of options reads them (getopt_long(3)).
-- A word with no source is this project's rule.
use Rattle.std.specs.Prelude.{ℕ, nat_eq, ◌+◌, Bool, true, false, not, nat_lt, ◌&&◌, ◌||◌, List, [], ◌∷◌, length, drop, fold, Option, None, Some, is_none, if◌then◌else◌, codes}
use Rattle.std.specs.List.{starts_with}
use Rattle.std.specs.Str.{bytes_eq}
use Rattle.mt_lines.specs.Words.{pieces}
use Rattle.mt_protocol.specs.Verbs.{first_of}
use Rattle.mt_forms.specs.Tables.{option_of_letter, option_of_name}
use Rattle.mt_forms.specs.Given.{nothing_given, slipped, with_option, with_value, with_plain}
use Rattle.mt_forms.specs.declared.command.Tool.{Tool}
use Rattle.mt_forms.specs.declared.given.Given.{Given}
use Rattle.mt_forms.specs.declared.slip.Slip.TheVariants as slip
use Rattle.mt_forms.specs.declared.table.Means.{Means}
use Rattle.mt_forms.specs.declared.table.Takes.{Takes}
use Rattle.mt_forms.specs.declared.table.Takes.TheVariants.{Nothing, Value, Maybe}
use Rattle.mt_forms.specs.declared.table.Effect.{Effect}

-- a word that is no option where options may stand; a dash alone is none
abbrev pub is_no_option : List ℕ → Bool
is_no_option word = not (starts_with nat_eq word (codes "-")) || bytes_eq word (codes "-")

-- the name of an option before the first `=`, and the value after it
abbrev pub option_name : List ℕ → List ℕ
option_name option = first_of (pieces 61 option)

abbrev pub option_value : List ℕ → Option (List ℕ)
option_value option = if nat_lt (length (option_name option)) (length option) then Some (drop (length (option_name option) + 1) option) else None

-- a value has to come after it
abbrev pub takes_value : Takes → Bool
takes_value Value = true
takes_value takes = false

-- the value of a letter is what comes after it in its word, or the next word
abbrev pub value_behind : Tool → Means → List ℕ → Given → Given
value_behind tool means [] g = record g { waiting = Some means }
value_behind tool means (b ∷ bytes) g = with_value tool means (b ∷ bytes) g

-- a letter, of which the others of the word come after it
abbrev pub by_letter : Option Effect → Tool → List ℕ → List ℕ → Given → (Given → Given) → Given
by_letter None tool word rest g read = slipped (slip.NoOption tool word) g
by_letter (Some effect) tool word rest g read =
    if takes_value effect.takes then value_behind tool effect.means rest g else read (with_option tool effect.means g)

-- options of one letter each in one word
abbrev pub with_letters : Tool → List ℕ → List ℕ → Given → Given
with_letters tool word [] g = g
with_letters tool word (letter ∷ rest) g =
    by_letter (option_of_letter tool (letter ∷ [])) tool word rest g (λ read. with_letters tool word rest read)

-- an option that has a name, and a value after `=` or none
abbrev pub by_takes : Takes → Means → Option (List ℕ) → Tool → List ℕ → Given → Given
by_takes Nothing means (Some value) tool word g = slipped (slip.NoneTaken tool word) g
by_takes Nothing means None tool word g = with_option tool means g
by_takes Value means (Some value) tool word g = with_value tool means value g
by_takes Value means None tool word g = record g { waiting = Some means }
by_takes Maybe means (Some value) tool word g = with_value tool means value g
by_takes Maybe means None tool word g = with_option tool means g

abbrev pub by_name : Option Effect → Option (List ℕ) → Tool → List ℕ → Given → Given
by_name None value tool word g = slipped (slip.NoOption tool word) g
by_name (Some effect) value tool word g = by_takes effect.takes effect.means value tool word g

abbrev pub with_named_option : Tool → List ℕ → List ℕ → Given → Given
with_named_option tool word option g = by_name (option_of_name tool (option_name option)) (option_value option) tool word g

-- an option with a name, or several of one letter each
abbrev pub with_dashed : Tool → List ℕ → Given → Given
with_dashed tool word g = if starts_with nat_eq word (codes "--") then with_named_option tool word (drop 2 word) g else with_letters tool word (drop 1 word) g

-- a word where no value is waited for: after `--` none is an option, nor after a command
abbrev pub with_free_word : Tool → Given → List ℕ → Given
with_free_word tool g word =
    if g.has_ended || g.has_command || is_no_option word then with_plain tool word g
    else (if bytes_eq word (codes "--") then record g { has_ended = true } else with_dashed tool word g)

-- a word, which is the value of the option before it where that waits for one
abbrev pub by_waiting : Option Means → Tool → Given → List ℕ → Given
by_waiting (Some means) tool g word = with_value tool means word (record g { waiting = None })
by_waiting None tool g word = with_free_word tool g word

abbrev pub with_word : Tool → Given → List ℕ → Given
with_word tool g word = by_waiting g.waiting tool g word

-- what the words after a program give
unfoldable pub given_of : Tool → List (List ℕ) → Given
given_of tool words = fold (with_word tool) nothing_given words

-- a word is none of the options before a command (nsenter(1)), nor the value of one
abbrev pub begins_command : Given → List ℕ → Bool
begins_command g word = is_none g.waiting && (g.has_ended || is_no_option word)
