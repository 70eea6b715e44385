use Rattle.std.proofs.Common.{◌≡◌, map, drop, slice_get, filter_map}
use Rattle.mt_transcript.specs.Lines.{line_viewed}
use Rattle.mt_transcript.specs.Queue.{queue_said, queue_in}
use Rattle.mt_transcript.proofs.queue.queue_in.Given as goal

-- what the lines to come say first is what all say
abbrev pub invariant-lines : goal.invariant-lines
invariant-lines l = slice_get (filter_map queue_said (map line_viewed (drop l.line-index l.lines))) 0 ≡ queue_in (map line_viewed l.lines)
