use Rattle.std.proofs.Common.{◌≡◌, ◌++◌, map, length}
use Rattle.mt_transcript.specs.Lines.{line_viewed, line_read}
use Rattle.mt_transcript.proofs.lines.transcript_lines.Given as goal

-- the lines added, and those to come
abbrev pub invariant-pieces : goal.invariant-pieces
invariant-pieces l = map line_viewed l.lines.items ++ map line_read l.pieces ≡ map line_read l.initial.pieces

abbrev pub decreases-pieces : goal.decreases-pieces
decreases-pieces l = length l.pieces
