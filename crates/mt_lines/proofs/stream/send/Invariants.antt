use Rattle.std.proofs.Common.{length, ◌-◌, ◌≡◌, ◌≤◌, take, [], IsTrue}
use Rattle.std.specs.Io.KnownBytes.{Appends}
use Rattle.mt_lines.proofs.stream.send.Given as goal

abbrev pub invariant-sending : goal.invariant-sending
invariant-sending g l = record {
  within : l.sent ≤ length l.bytes;
  appended : Appends (g.W.Output.contents l.initial.writer) (g.W.Output.contents l.writer) (take l.sent l.bytes);
  faults : IsTrue g.W.Output.counts → g.W.Output.faults l.initial.writer ≡ [] → g.W.Output.faults l.writer ≡ [];
  counted : IsTrue g.W.Output.counts → g.W.Output.failed l.initial.writer ≤ g.W.Output.failed l.writer;
}

abbrev pub decreases-sending : goal.decreases-sending
decreases-sending g l = length l.bytes - l.sent
