-- Lines, read before any of them is tried.
-- A word with no source is this project's rule.
use Rattle.std.specs.Prelude.{◌≡◌, ⊤, ℕ, ◌+◌, ◌^◌, nat_eq, nat_lt, nat_le, Bool, true, false, ◌&&◌, if◌then◌else◌, List, [], ◌∷◌, ◌++◌, drop, Option, None, Some, unwrap_or, Ok, Err, codes, decimal}
use Rattle.std.specs.List.{find, flat_map, starts_with}
use Rattle.std.specs.Option.{option_and_then, option_map, option_map_or}
use Rattle.std.specs.Str.{bytes_eq}
use Rattle.mt_skel.specs.Escapes.{escaped}
use Rattle.mt_lines.specs.Words.{pieces, number_in_text}
use Rattle.mt_protocol.specs.Verbs.{verb_of, verb_arguments}
use Rattle.mt_protocol.specs.declared.argument.Argument.{Argument}
use Rattle.mt_protocol.specs.declared.argument.Argument.TheVariants.{Space}
use Rattle.mt_forms.specs.Lines.{asked_of}
use Rattle.mt_forms.specs.Scripts.{behind_word}
use Rattle.mt_forms.specs.declared.operation.Asked.{Asked}
use Rattle.mt_forms.specs.declared.operation.Operation.{Operation}
use Rattle.mt_forms.specs.declared.operation.Operation.TheVariants.{Line}
use Rattle.mt_what_if.specs.declared.asked.AskedLine.{AskedLine}
use Rattle.mt_what_if.specs.declared.asked.WrongLine.{WrongLine}
use Rattle.mt_what_if.specs.declared.asked.WrongLine.TheVariants.{Slip}

-- a word, and the namespace that it names; none, where it could be several
pub record SpaceWordView : Type 0 where
  pub word : List ℕ
  pub space : Option ℕ

-- the namespace that a word names: after `new:` it is counted from the last one of the tables; else it is that of the first of the words that it is, or of the number of a table
abbrev pub new_place : List ℕ → Option ℕ
new_place word = if starts_with nat_eq word (codes "new:") then number_in_text (drop 4 word) else None

abbrev pub space_listed : List SpaceWordView → List ℕ → Option (Option ℕ)
space_listed names word = option_map (λ (s : SpaceWordView). s.space) (find (λ (s : SpaceWordView). bytes_eq s.word word) names)

abbrev pub table_of_number : ℕ → ℕ → Option ℕ
table_of_number last n = if nat_lt 0 n && nat_le n last then Some n else None

abbrev pub table_number : ℕ → List ℕ → Option ℕ
table_number last word = option_and_then (table_of_number last) (number_in_text word)

abbrev pub table_named : List SpaceWordView → ℕ → List ℕ → Option ℕ
table_named names last word = unwrap_or (space_listed names word) (table_number last word)

abbrev pub space_counted : ℕ → ℕ → Option ℕ
space_counted last place = if nat_lt (last + place) (2 ^ 64) then Some (last + place) else None

abbrev pub space_by_place : List SpaceWordView → ℕ → List ℕ → Option ℕ → Option ℕ
space_by_place names last word None = table_named names last word
space_by_place names last word (Some place) = space_counted last place

abbrev pub space_named : List SpaceWordView → ℕ → List ℕ → Option ℕ
space_named names last word = space_by_place names last word (new_place word)

-- the first word after a verb names a namespace
abbrev pub is_space_argument : Argument → Bool
is_space_argument Space = true
is_space_argument argument = false

abbrev pub first_names_space : List Argument → Bool
first_names_space [] = false
first_names_space (first ∷ arguments) = is_space_argument first

abbrev pub begins_with_space : List ℕ → Bool
begins_with_space verb = option_map_or (λ v. first_names_space (verb_arguments v)) (verb_of verb) false

-- a line of a session, with the number of its namespace in the place of that word
abbrev pub words_numbered : Bool → List (List ℕ) → ℕ → List ℕ
words_numbered true (word ∷ words) space = 32 ∷ decimal space ++ flat_map behind_word words
words_numbered has words space = flat_map behind_word words

abbrev pub session_text : List ℕ → List (List ℕ) → ℕ → List ℕ
session_text verb words space = escaped verb ++ words_numbered (begins_with_space verb) words space

abbrev pub own_of : Operation → ℕ → List ℕ
own_of (Line verb words) space = session_text verb words space
own_of operation space = []

-- the namespace of a line: the one that it names, or else the first one; of a line of a session the one that its first word names
abbrev pub first_space : List SpaceWordView → ℕ → Option (List ℕ) → Option ℕ
first_space names last None = Some 1
first_space names last (Some word) = space_named names last word

abbrev pub named_by_first : List SpaceWordView → ℕ → List (List ℕ) → ℕ → Option ℕ
named_by_first names last [] n = Some n
named_by_first names last (word ∷ words) n = space_named names last word

abbrev pub session_space : List SpaceWordView → ℕ → List ℕ → List (List ℕ) → ℕ → Option ℕ
session_space names last verb words n = if begins_with_space verb then named_by_first names last words n else Some n

abbrev pub space_of_operation : List SpaceWordView → ℕ → Operation → ℕ → Option ℕ
space_of_operation names last (Line verb words) n = session_space names last verb words n
space_of_operation names last operation n = Some n

abbrev pub space_asked : List SpaceWordView → ℕ → Asked → Option ℕ
space_asked names last asked = option_and_then (space_of_operation names last asked.operation) (first_space names last asked.space)

-- what is asked for in a namespace by a line that is none of a session
pub record IsFormLine (text : List ℕ) (what : Asked) (n : ℕ) (line : AskedLine) : Type 0 where
  pub words : line.words.now ≡ text
  pub asked : line.asked ≡ what
  pub space : line.space ≡ n
  pub own : line.own.items ≡ []

-- what is asked for, in its namespace
pub record IsPlaced (names : List SpaceWordView) (last : ℕ) (text : List ℕ) (what : Asked) (line : AskedLine) : Type 0 where
  pub words : line.words.now ≡ text
  pub asked : line.asked ≡ what
  pub space : space_asked names last what ≡ Some line.space
  pub own : line.own.items ≡ own_of what.operation line.space

-- a line is read: what its words ask for (mt_forms), in its namespace
pub record IsAsked (names : List SpaceWordView) (last : ℕ) (text : List ℕ) (line : AskedLine) : Type 0 where
  pub asked : asked_of (pieces 0 text) ≡ Ok line.asked
  pub placed : IsPlaced names last text line.asked line

-- it has a slip
abbrev pub is_slip : WrongLine → Bool
is_slip (Slip slip) = true
is_slip why = false

abbrev pub IsSlip : List (List ℕ) → WrongLine → Type 0
IsSlip words (Slip slip) = asked_of words ≡ Err slip
IsSlip words why = ⊤
