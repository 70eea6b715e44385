use Rattle.std.proofs.Common.{◌≡◌, Some, length}
use Rattle.mt_transcript.specs.Sent.{both_texts, repeated_pieces}
use Rattle.mt_transcript.proofs.sent.repeated_pieces.Given as goal

-- what the pieces so far stand for, and those to come
abbrev pub invariant-pieces : goal.invariant-pieces
invariant-pieces l = both_texts (Some l.text.items) (repeated_pieces l.pieces) ≡ both_texts (Some l.front) (repeated_pieces l.initial.pieces)

abbrev pub decreases-pieces : goal.decreases-pieces
decreases-pieces l = length l.pieces
