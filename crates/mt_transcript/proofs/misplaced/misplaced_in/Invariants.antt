use Rattle.std.proofs.Common.{◌≡◌, map, take}
use Rattle.mt_transcript.specs.Lines.{line_viewed}
use Rattle.mt_transcript.specs.Misplaced.{said_above, misplaced_in}
use Rattle.mt_transcript.proofs.MisplacedLaws.{first_below}
use Rattle.mt_transcript.proofs.misplaced.misplaced_in.Given as goal

-- what the lines above say is known, and the first misplaced of the lines to come is that of all
abbrev pub invariant-lines : goal.invariant-lines
invariant-lines l = record {
  said : l.above ≡ said_above (take l.place (map line_viewed l.lines));
  first : first_below (map line_viewed l.lines) l.place ≡ misplaced_in (map line_viewed l.lines);
}
