use Rattle.std.proofs.Common.{◌≡◌, ◌++◌, map, drop}
use Rattle.mt_transcript.specs.Lines.{line_viewed}
use Rattle.mt_transcript.specs.Told.{answer_told}
use Rattle.mt_transcript.proofs.told.answer_told.Given as goal

-- the lines appended, and those to come
abbrev pub invariant-lines : goal.invariant-lines
invariant-lines l = l.text.items ++ answer_told (map line_viewed (drop l.line-index l.lines)) ≡ answer_told (map line_viewed l.lines)
