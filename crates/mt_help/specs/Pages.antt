-- The text of a page of help.
-- A word with no source is this project's rule.
use Rattle.std.specs.Prelude.{ℕ, List, [], ◌∷◌, ◌++◌, ◌==◌, length, if◌then◌else◌, codes}
use Rattle.std.specs.List.{flat_map}
use Rattle.mt_skel.specs.Fault.{name_of}
use Rattle.mt_lines.specs.Words.{pieces}
use Rattle.mt_help.specs.declared.page.Usage.{Usage}
use Rattle.mt_help.specs.declared.page.RefusalSaid.{RefusalSaid}

-- the lines of a text, each behind an indent
abbrev pub indented : List ℕ → List ℕ
indented line = codes "    " ++ line ++ 10 ∷ []

abbrev pub indented_lines : List ℕ → List ℕ
indented_lines text = flat_map indented (pieces 10 text)

-- a way to write something, and what it does
abbrev pub usage_text : Usage → List ℕ
usage_text usage = usage.words.now ++ 10 ∷ indented_lines usage.says.now

-- a title behind an empty line, and a section of lines, which is left out where it has none
abbrev pub section_title : List ℕ → List ℕ
section_title title = 10 ∷ title ++ 10 ∷ []

abbrev pub section_text : List ℕ → List ℕ → List ℕ
section_text title lines = if length lines == 0 then [] else section_title title ++ indented_lines lines

-- a refusal with what it says, and the section of refusals
abbrev pub refusal_said_text : RefusalSaid → List ℕ
refusal_said_text said = codes "    " ++ name_of said.refusal ++ codes ": " ++ said.sentence.now ++ 10 ∷ []

abbrev pub refusals_text : List RefusalSaid → List ℕ
refusals_text said = if length said == 0 then [] else section_title (codes "Refusals:") ++ flat_map refusal_said_text said

-- a note behind an empty line
abbrev pub note_text : List ℕ → List ℕ
note_text note = if length note == 0 then [] else section_title note

-- a page: the ways to write something, its answer, an example, its refusals and a note
unfoldable pub page_text : List Usage → List ℕ → List ℕ → List RefusalSaid → List ℕ → List ℕ
page_text usages answer example said note =
    flat_map usage_text usages ++ section_text (codes "Answer:") answer ++ section_text (codes "Example:") example ++ refusals_text said ++ note_text note
