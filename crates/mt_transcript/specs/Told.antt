-- Answers as a transcript tells them.
-- A word with no source is this project's rule.
use Rattle.std.specs.Prelude.{ℕ, if◌then◌else◌, List, [], ◌∷◌, ◌++◌, codes, decimal}
use Rattle.std.specs.List.{flat_map}
use Rattle.std.specs.Str.{bytes_eq}
use Rattle.mt_lines.specs.Words.{pieces}
use Rattle.mt_transcript.specs.Lines.{ReadLine, with_line_end}
use Rattle.mt_transcript.specs.declared.lines.LineKind.{LineKind}
use Rattle.mt_transcript.specs.declared.lines.LineKind.TheVariants.{Answer}

-- the lines of an answer, up to the first other line
abbrev pub if_answer : LineKind → List ℕ → List ℕ
if_answer Answer text = text
if_answer kind text = []

abbrev pub answer_told : List ReadLine → List ℕ
answer_told [] = []
answer_told (l ∷ ls) = if_answer l.kind (with_line_end l.text ++ answer_told ls)

-- an answer that did not come, as comments
abbrev pub other_line : List ℕ → List ℕ
other_line [] = []
other_line (b ∷ bs) = codes "# told: " ++ with_line_end (b ∷ bs)

abbrev pub other_answer : List ℕ → List ℕ
other_answer told = flat_map other_line (pieces 10 told)

abbrev pub other_text : List ℕ → List ℕ
other_text [] = codes "# told: no answer\n"
other_text (b ∷ bs) = other_answer (b ∷ bs)

abbrev pub told_beside : List ℕ → List ℕ → List ℕ
told_beside answer told = if bytes_eq answer told then [] else other_text told

-- a line that is played, the answer that came, and the one that is told where that is another one
abbrev pub played_text : List ℕ → List ℕ → List ℕ → List ℕ
played_text line answer told = with_line_end line ++ answer ++ told_beside answer told

-- how many lines were answered as they are told
abbrev pub alike_text : ℕ → ℕ → List ℕ
alike_text alike count = codes "# as told: " ++ (decimal alike ++ (codes " of " ++ (decimal count ++ codes " lines\n")))
