-- What is told of lines, as JSON: an object a line (RFC 8259).
-- A word with no source is this project's rule.
use Rattle.std.specs.Prelude.{ℕ, List, [], ◌∷◌, ◌++◌, codes, decimal}
use Rattle.std.specs.List.{flat_map}
use Rattle.serde_json.specs.Written.{compact_text}
use Rattle.mt_terminal.specs.Terminal.{quoted_text}
use Rattle.mt_render.specs.Members.{text_data}
use Rattle.mt_what_if.specs.KnownSpaces.{TitledSpace}

-- bytes as a string, with no character that a terminal obeys
abbrev pub json_text : List ℕ → List ℕ
json_text bytes = quoted_text (compact_text (text_data bytes))

-- a line that is tried, and what is taken to be there for it
unfoldable pub asked_object : ℕ → List ℕ → List ℕ
asked_object number line = codes "{\"line\":" ++ decimal number ++ codes ",\"asked\":" ++ json_text line ++ codes "}\n"

unfoldable pub taken_object : List ℕ → List ℕ
taken_object taken = codes "{\"taken\":" ++ json_text taken ++ codes "}\n"

-- the name of a refusal, and why the line is refused
unfoldable pub refusal_member : List ℕ → List ℕ
refusal_member name = codes "{\"refusal\":" ++ json_text name

unfoldable pub reason_member : List ℕ → List ℕ
reason_member reason = codes ",\"reason\":" ++ json_text reason

unfoldable pub reason_object : List ℕ → List ℕ → List ℕ
reason_object name reason = refusal_member name ++ reason_member reason ++ codes "}\n"

-- names with commas between them
abbrev pub further_texts : List TitledSpace → List ℕ
further_texts spaces = flat_map (λ (s : TitledSpace). codes "," ++ json_text s.name) spaces

abbrev pub listed_texts : List TitledSpace → List ℕ
listed_texts [] = []
listed_texts (first ∷ more) = json_text first.name ++ further_texts more

-- which of so many other namespaces change
unfoldable pub elsewhere_object : ℕ → List TitledSpace → List ℕ
elsewhere_object others changed = codes "{\"elsewhere\":[" ++ listed_texts changed ++ codes "],\"others\":" ++ decimal others ++ codes "}\n"
