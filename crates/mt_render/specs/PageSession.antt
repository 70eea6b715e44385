-- What a session has beside the lines that are sent.
-- A word with no source is this project's rule.
use Rattle.std.specs.Prelude.{ℕ, Bool, true, false, ◌==◌, ◌&&◌, cond, List, [], ◌∷◌, ◌++◌, ◌-◌, length, slice_get, Option, Some, None, codes}
use Rattle.std.specs.List.{flat_map}
use Rattle.std.specs.Option.{option_map_or}
use Rattle.std.specs.Str.{bytes_eq}
use Rattle.mt_lines.specs.Words.{words, number_in_text}
use Rattle.mt_protocol.specs.Verbs.{verb_of, first_of}
use Rattle.mt_protocol.specs.declared.verb.Verb.{Verb}
use Rattle.mt_protocol.specs.declared.verb.Verb.TheVariants.{Watch, Take, Follow, Close, Quit, Stop}
use Rattle.mt_render.specs.declared.page_session.Role.{Role}
use Rattle.mt_render.specs.declared.page_session.Role.TheVariants.{Comment, Watcher, End, Line}

-- a line that is not sent: it is empty, or begins with `#`
abbrev pub is_unsent : List ℕ → Bool
is_unsent [] = true
is_unsent (b ∷ bs) = b == 35

-- a line about a watcher, which is the page's own
abbrev pub is_of_watcher : Verb → Bool
is_of_watcher Watch = true
is_of_watcher Take = true
is_of_watcher Follow = true
is_of_watcher Close = true
is_of_watcher verb = false

-- a line that is one of these words alone, with which the session ends
abbrev pub is_end : Verb → Bool
is_end Quit = true
is_end Stop = true
is_end verb = false

abbrev pub role_by : List ℕ → Role
role_by line = cond (option_map_or is_end (verb_of line) false) End (cond (option_map_or is_of_watcher (verb_of (first_of (words line))) false) Watcher Line)

-- what a line of a session is for a page
abbrev pub role_of : List ℕ → Role
role_of line = cond (is_unsent line) Comment (role_by line)

-- what a comment says: what stands behind `#`, and behind a space there
abbrev pub behind_space : List ℕ → List ℕ
behind_space [] = []
behind_space (b ∷ bs) = cond (b == 32) bs (b ∷ bs)

abbrev pub said_text : List ℕ → List ℕ
said_text [] = []
said_text (b ∷ bs) = cond (b == 35) (behind_space bs) (b ∷ bs)

-- a note is empty, or ends with a line end
abbrev pub begins_anew : List ℕ → Bool
begins_anew note = option_map_or (λ b. b == 10) (slice_get note (length note - 1)) true

-- a note goes on behind a space, or in a new paragraph
abbrev pub note_by : List ℕ → List ℕ → List ℕ
note_by note [] = note ++ cond (begins_anew note) [] (codes "\n")
note_by note (b ∷ bs) = note ++ (cond (begins_anew note) [] (codes " ") ++ b ∷ bs)

-- a note and what a comment says: an empty comment begins a new paragraph
abbrev pub note_with : List ℕ → List ℕ → List ℕ
note_with note line = note_by note (said_text line)

-- what a namespace is called
pub record NameTexts : Type 0 where
  pub space : ℕ
  pub name : List ℕ

-- words, each behind a space
abbrev pub spaced : List (List ℕ) → List ℕ
spaced ws = flat_map (λ w. 32 ∷ w) ws

-- a name, where this is a number
abbrev pub named : Option ℕ → List ℕ → Option NameTexts
named None name = None
named (Some n) name = Some (record { space = n; name = name })

-- `namespace N is NAME`, and the name goes on to the end of the line
abbrev pub numbered_name : List ℕ → List ℕ → List (List ℕ) → Option NameTexts
numbered_name space first ws = named (number_in_text space) (first ++ spaced ws)

-- `table TABLE is namespace N`
abbrev pub table_name : List ℕ → List ℕ → List (List ℕ) → Option NameTexts
table_name table kind (space ∷ []) = cond (bytes_eq kind (codes "namespace")) (named (number_in_text space) (codes "table " ++ table)) None
table_name table kind ws = None

abbrev pub name_as : List ℕ → List ℕ → List ℕ → List (List ℕ) → Option NameTexts
name_as kind what first ws = cond (bytes_eq kind (codes "namespace")) (numbered_name what first ws) (cond (bytes_eq kind (codes "table")) (table_name what first ws) None)

-- the name that a comment tells, if it does
abbrev pub name_among : List (List ℕ) → Option NameTexts
name_among (mark ∷ kind ∷ what ∷ is ∷ first ∷ ws) = cond (bytes_eq mark (codes "#") && bytes_eq is (codes "is")) (name_as kind what first ws) None
name_among ws = None

abbrev pub given_name : List ℕ → Option NameTexts
given_name line = name_among (words line)
