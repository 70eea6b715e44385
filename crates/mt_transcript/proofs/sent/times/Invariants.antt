use Rattle.std.proofs.Common.{◌≡◌}
use Rattle.mt_transcript.specs.Sent.{times}
use Rattle.mt_transcript.proofs.sent.times.Given as goal

-- the word was written so many times
abbrev pub invariant-times : goal.invariant-times
invariant-times l = l.text.items ≡ times l._time l.word
