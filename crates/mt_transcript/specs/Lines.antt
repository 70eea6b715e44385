-- The lines of a transcript.
-- A word with no source is this project's rule.
use Rattle.std.specs.Prelude.{ℕ, ◌==◌, if◌then◌else◌, List, [], ◌∷◌, ◌++◌, codes}
use Rattle.mt_transcript.specs.declared.lines.LineKind.{LineKind}
use Rattle.mt_transcript.specs.declared.lines.LineKind.TheVariants.{Nothing, Comment, Arguments, Sent, Answer}
use Rattle.mt_transcript.specs.declared.lines.TranscriptLine.{TranscriptLine}

-- what a line is, by its first byte: `#`, `$`, `>` or another one
abbrev pub kind_begun : ℕ → LineKind
kind_begun b = if b == 35 then Comment else if b == 36 then Arguments else if b == 62 then Sent else Answer

abbrev pub line_kind : List ℕ → LineKind
line_kind [] = Nothing
line_kind (b ∷ bs) = kind_begun b

-- a line, and what it is
pub record ReadLine : Type 0 where
  pub kind : LineKind
  pub text : List ℕ

abbrev pub line_viewed : TranscriptLine → ReadLine
line_viewed l = record { kind = l.kind; text = l.text.now }

-- a line that was read
abbrev pub line_read : List ℕ → ReadLine
line_read text = record { kind = line_kind text; text = text }

-- a line with a line end
abbrev pub with_line_end : List ℕ → List ℕ
with_line_end line = line ++ codes "\n"
