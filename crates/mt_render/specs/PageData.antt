-- The data of a page (JSON: RFC 8259; what ends a script element: the HTML standard, "restrictions for contents of script elements").
-- A word with no source is this project's rule.
use Rattle.std.specs.Prelude.{ℕ, Bool, not, ◌-◌, ◌==◌, cond, List, [], ◌∷◌, ◌++◌, take, length, codes, decimal}
use Rattle.std.specs.List.{flat_map, list_all}
use Rattle.std.specs.Str.Lossy.{utf8_lossy}
use Rattle.serde_json.specs.Data.{string}
use Rattle.serde_json.specs.Written.{compact_text}
use Rattle.mt_terminal.specs.Terminal.{quoted_text}
use Rattle.mt_events.specs.Mirrors.{MirrorView}
use Rattle.mt_render.specs.Drawings.{drawing_text}
use Rattle.mt_render.specs.declared.drawing.Drawing.TheVariants.{FlatJson}
use Rattle.mt_render.specs.PageSession.{NameTexts}

-- what a line of a session did
pub record StepTexts : Type 0 where
  pub line : List ℕ
  pub answer : List ℕ
  pub reason : List ℕ
  pub note : List ℕ
  pub changes : List ℕ

-- bytes as a string: each sequence that is no UTF-8 is U+FFFD, and no character stands there that a terminal obeys
abbrev pub string_text : List ℕ → List ℕ
string_text bytes = quoted_text (compact_text (string (utf8_lossy bytes)))

-- what leads to a string, its key, and the string
abbrev pub member : List ℕ → List ℕ → List ℕ
member lead bytes = lead ++ string_text bytes

-- the same, if there is a text
abbrev pub told : List ℕ → List ℕ → List ℕ
told lead [] = []
told lead (b ∷ bs) = member lead (b ∷ bs)

-- a byte, or for a line end what parts elements
abbrev pub parted : List ℕ → ℕ → List ℕ
parted separator b = cond (b == 10) separator (b ∷ [])

-- lines as elements: this for each line end but the last
abbrev pub elements : List ℕ → List ℕ → List ℕ
elements separator lines = flat_map (parted separator) (take (length lines - 1) lines)

-- what a line changed, as the last member of its object
abbrev pub posts_member : List ℕ → List ℕ
posts_member changes = codes ",\"posts\":[" ++ (elements (codes ",") changes ++ codes "]}\n")

-- the object of a step, a line
unfoldable pub step_line : StepTexts → List ℕ
step_line s = member (codes "{\"line\":") s.line ++ (member (codes ",\"answer\":") s.answer ++ (told (codes ",\"reason\":") s.reason ++ (told (codes ",\"note\":") s.note ++ posts_member s.changes)))

-- a byte of a text of JSON, or for `<`, which stands in strings alone, its code
abbrev pub inert_byte : ℕ → List ℕ
inert_byte b = cond (b == 60) (codes "\\u003c") (b ∷ [])

-- a text of JSON that ends no script element
abbrev pub inert : List ℕ → List ℕ
inert bytes = flat_map inert_byte bytes

-- a text with no `<`, which ends no element in which it stands, and begins no comment in one
abbrev pub is_harmless : List ℕ → Bool
is_harmless bytes = list_all (λ b. not (b == 60)) bytes

-- the name of a namespace behind its number, a line
abbrev pub name_line : NameTexts → List ℕ
name_line n = codes "\"" ++ (decimal n.space ++ (member (codes "\":") n.name ++ codes "\n"))

-- lines as elements, each in a line of its own, between two texts
abbrev pub between : List ℕ → List ℕ → List ℕ → List ℕ
between lead lines end = lead ++ (elements (codes ",\n") lines ++ end)

-- names, each a line, in an object behind the steps
abbrev pub names_member : List ℕ → List ℕ
names_member lines = between (codes "],\n\"names\":{") lines (codes "}")

-- a title, if there is one, and the end
abbrev pub title_text : List ℕ → List ℕ
title_text title = told (codes ",\n\"title\":") title ++ codes "}"

-- what stands behind the steps
abbrev pub behind_text : List NameTexts → List ℕ → List ℕ
behind_text names title = names_member (flat_map name_line names) ++ title_text title

-- tables, each a line, and the beginning of the steps
abbrev pub tables_text : List ℕ → List ℕ
tables_text lines = between (codes "{\"opening\":[") lines (codes "],\n\"steps\":[")

-- the object that a page reads, up to its steps: the tables that were there before, as `show NS --json` prints them
unfoldable pub opening_data : List MirrorView → List ℕ
opening_data parts = inert (tables_text (drawing_text FlatJson [] parts))

-- its steps, and what stands behind them: names of namespaces, and its title
unfoldable pub steps_data : List StepTexts → List NameTexts → List ℕ → List ℕ
steps_data steps names title =
    inert (elements (codes ",\n") (flat_map step_line steps) ++ behind_text names title)
