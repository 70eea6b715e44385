use Rattle.std.proofs.Common.{◌≡◌, map, drop, slice_get, filter_map}
use Rattle.mt_transcript.specs.Lines.{line_viewed}
use Rattle.mt_transcript.specs.Room.{room_said, room_in}
use Rattle.mt_transcript.proofs.room.room_in.Given as goal

-- what the lines to come say first is what all say
abbrev pub invariant-lines : goal.invariant-lines
invariant-lines l = slice_get (filter_map room_said (map line_viewed (drop l.line-index l.lines))) 0 ≡ room_in (map line_viewed l.lines)
