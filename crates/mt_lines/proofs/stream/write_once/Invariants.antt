use Rattle.std.proofs.Common.{◌≡◌, IsTrue, [], ◌+◌}
use Rattle.std.specs.Io.KnownBytes.{Keeps}
use Rattle.mt_lines.specs.Stream.{interruptions}
use Rattle.mt_lines.proofs.stream.write_once.Given as goal

-- this many writes were interrupted
abbrev pub invariant-trying : goal.invariant-trying
invariant-trying g l = record {
  known : Keeps (g.W.Output.contents l.initial.writer) (g.W.Output.contents l.writer);
  failed : IsTrue g.W.Output.counts → g.W.Output.failed l.writer ≡ g.W.Output.failed l.initial.writer + l._tries;
  run : IsTrue g.W.Output.counts → g.W.Output.faults l.initial.writer ≡ [] → g.W.Output.faults l.writer ≡ interruptions l._tries;
}
