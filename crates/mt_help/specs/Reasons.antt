-- What is told of a line that is refused as bad, and that it is so.
-- A word with no source is this project's rule.
use Rattle.std.specs.Prelude.{◌≡◌, ◌⊎◌, ℕ, Bool, true, false, not, ◌&&◌, ◌==◌, nat_eq, if◌then◌else◌, List, [], ◌∷◌, length, drop, Option, None, Some, is_some, Result, Ok, Err, codes, MatchOption}
use Rattle.std.specs.List.{list_any}
use Rattle.std.specs.Str.{bytes_eq}
use Rattle.mt_skel.specs.declared.fault.Fault.{Fault}
use Rattle.mt_skel.specs.Escapes.{unescaped}
use Rattle.mt_lines.specs.Words.{words, number_in_text}
use Rattle.mt_protocol.specs.Verbs.{verb_of, verb_arguments, first_of}
use Rattle.mt_protocol.specs.declared.argument.Argument.{Argument}
use Rattle.mt_protocol.specs.declared.argument.Argument.TheVariants.{Space, Scope, Count, Label, Path, Less, Lock, Recursive, Attributes, Setting}
use Rattle.mt_protocol.specs.declared.verb.Verb.{Verb}
use Rattle.mt_protocol.specs.declared.verb.Verb.TheVariants.{Setattr}
use Rattle.mt_requests.specs.declared.request.Request.{Request}
use Rattle.mt_requests.specs.Requests.{is_bad_line, count_of, word_fault, are_counted}
use Rattle.mt_requests.specs.Options.{option_keys, has_key, is_option, is_repeated, lists, set_words, clr_words, kind_of}
use Rattle.mt_help.specs.declared.reason.Reason.{Reason}
use Rattle.mt_help.specs.declared.reason.Reason.TheVariants as reason

-- a line is refused as bad
abbrev pub is_refused_as_bad : Result Request Fault → Bool
is_refused_as_bad (Ok asked) = false
is_refused_as_bad (Err fault) = is_bad_line (Some fault)

-- a word with no byte
abbrev pub is_empty_word : List ℕ → Bool
is_empty_word word = nat_eq (length word) 0

-- an option of `setattr`, with what it may say behind its key
abbrev pub is_right_option : List ℕ → Bool
is_right_option option =
    if bytes_eq option (codes "rec") then true
    else (if has_key (codes "set=") option then is_some (set_words (drop 4 option))
    else (if has_key (codes "clr=") option then is_some (clr_words (drop 4 option))
    else has_key (codes "prop=") option && is_some (kind_of (drop 5 option))))

-- a word can stand as an argument: by itself it does not make the line a bad one
abbrev pub is_right : Argument → List ℕ → Bool
is_right Setting word = is_right_option word
is_right argument word = not (is_bad_line (word_fault argument word))

-- each word is right as its argument
abbrev pub are_right : List Argument → List (List ℕ) → Bool
are_right (argument ∷ arguments) (word ∷ words) = is_right argument word && are_right arguments words
are_right arguments words = true

-- one of the words of a list, or the whole list
abbrev pub IsWordOf : List ℕ → List ℕ → Type 0
IsWordOf list word = (lists list word ≡ true) ⊎ (word ≡ list)

-- what is told of the list of `set=`, and of that of `clr=`, is so: a part of it is no attribute that can be set, or cleared
abbrev pub IsWrongSet : List ℕ → Reason → Type 0
IsWrongSet list (reason.SetWord told) = IsWordOf list told.now × (set_words told.now ≡ None)
IsWrongSet list reason = ⊥

abbrev pub IsWrongClr : List ℕ → Reason → Type 0
IsWrongClr list (reason.ClrWord told) = IsWordOf list told.now × (clr_words told.now ≡ None)
IsWrongClr list reason = ⊥

-- What is told of an option is so: it is none of the four, or what stands behind its key is wrong.
abbrev pub IsWrongOption : List ℕ → Reason → Type 0
IsWrongOption option (reason.NoOption told) = (told.now ≡ option) × (is_option option ≡ false)
IsWrongOption option (reason.SetWord told) = (has_key (codes "set=") option ≡ true) × IsWrongSet (drop 4 option) (reason.SetWord told)
IsWrongOption option (reason.ClrWord told) = (has_key (codes "clr=") option ≡ true) × IsWrongClr (drop 4 option) (reason.ClrWord told)
IsWrongOption option (reason.Propagation told) = (has_key (codes "prop=") option ≡ true) × (told.now ≡ drop 5 option) × (kind_of told.now ≡ None)
IsWrongOption option reason = ⊥

-- what is told of a label or a path is so: it has a zero byte, or a backslash that begins no escape
abbrev pub IsWrongText : List ℕ → Reason → Type 0
IsWrongText word (reason.Zero told) = (told.now ≡ word) × (list_any (λ b. b == 0) word ≡ true)
IsWrongText word (reason.Escape told) = (told.now ≡ word) × (unescaped word ≡ None)
IsWrongText word reason = ⊥

-- what is told of the attributes of a new mount is so: the word has another key, or a part of its list is no attribute that can be set
abbrev pub IsWrongAttributes : List ℕ → Reason → Type 0
IsWrongAttributes word (reason.NoAttributes told) = (told.now ≡ word) × (has_key (codes "set=") word ≡ false)
IsWrongAttributes word (reason.SetWord told) = (has_key (codes "set=") word ≡ true) × IsWrongSet (drop 4 word) (reason.SetWord told)
IsWrongAttributes word reason = ⊥

-- What is told of a word as an argument is so: it is no number, neither one nor `all`, or none from 1 to `most`; a wrong text; not `less`,
-- not `lock`, or not `rec`; wrong attributes; or a wrong option.
abbrev pub IsWrong : Argument → List ℕ → Reason → Type 0
IsWrong Space word (reason.Number told) = (told.now ≡ word) × (number_in_text word ≡ None)
IsWrong Scope word (reason.Scope told) = (told.now ≡ word) × (number_in_text word ≡ None) × (bytes_eq word (codes "all") ≡ false)
IsWrong (Count most) word (reason.Range told bound) = (told.now ≡ word) × (bound ≡ most) × (count_of most word ≡ None)
IsWrong Label word reason = IsWrongText word reason
IsWrong Path word reason = IsWrongText word reason
IsWrong Less word (reason.Less told) = (told.now ≡ word) × (bytes_eq word (codes "less") ≡ false)
IsWrong Lock word (reason.Lock told) = (told.now ≡ word) × (bytes_eq word (codes "lock") ≡ false)
IsWrong Recursive word (reason.Recursive told) = (told.now ≡ word) × (bytes_eq word (codes "rec") ≡ false)
IsWrong Attributes word reason = IsWrongAttributes word reason
IsWrong Setting word reason = IsWrongOption word reason
IsWrong argument word reason = ⊥

-- nothing is told of a word that is right as an argument, and of any other what is so
abbrev pub Judges : Argument → List ℕ → Option Reason → Type 0
Judges argument word told = MatchOption told (is_right argument word ≡ true) (λ reason. IsWrong argument word reason)

-- what is told is so of one of these words, as its argument
abbrev pub IsToldOf : Reason → List Argument → List (List ℕ) → Type 0
IsToldOf reason (argument ∷ arguments) (word ∷ words) = IsWrong argument word reason ⊎ IsToldOf reason arguments words
IsToldOf reason arguments words = ⊥

-- a line has this verb
abbrev pub HasVerb : List ℕ → Verb → Type 0
HasVerb line verb = verb_of (first_of (words line)) ≡ Some verb

-- What is told of a line as a whole is so: it is empty, or one of its words is; its first word is no verb; it has too few words, or too
-- many; or an option of `setattr` is there twice.
abbrev pub IsSoOfAll : List ℕ → Reason → Type 0
IsSoOfAll line reason.Empty = line ≡ []
IsSoOfAll line reason.EmptyWord = list_any is_empty_word (words line) ≡ true
IsSoOfAll line (reason.Unknown word nearest) = (word.now ≡ first_of (words line)) × (verb_of word.now ≡ None)
IsSoOfAll line (reason.Count usage) = (verb : Verb) × HasVerb line verb × (are_counted (verb_arguments verb) (drop 1 (words line)) ≡ false)
IsSoOfAll line reason.Twice = HasVerb line Setattr × (list_any (is_repeated (drop 3 (words line))) option_keys ≡ true)
IsSoOfAll line reason = ⊥

-- what is told is so of the line, or of one of the words behind its verb
abbrev pub IsSo : List ℕ → Reason → Type 0
IsSo line reason = IsSoOfAll line reason ⊎ ((verb : Verb) × HasVerb line verb × IsToldOf reason (verb_arguments verb) (drop 1 (words line)))
