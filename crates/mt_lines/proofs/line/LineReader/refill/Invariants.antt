use Rattle.std.proofs.Common.{◌≡◌, ◌+◌, IsTrue, []}
use Rattle.std.specs.Io.KnownBytes.{Keeps}
use Rattle.mt_lines.specs.Stream.{interruptions}
use Rattle.mt_lines.proofs.line.LineReader.refill.Given as goal

abbrev pub invariant-trying : goal.invariant-trying
invariant-trying g l = record {
  empty : l.self.chunk ≡ [];
  known : Keeps (g.R.Input.remaining l.initial.self.reader) (g.R.Input.remaining l.self.reader);
  failed : IsTrue g.R.Input.counts → g.R.Input.failed l.self.reader ≡ g.R.Input.failed l.initial.self.reader + l._tries;
  faults : IsTrue g.R.Input.counts → g.R.Input.faults l.initial.self.reader ≡ [] → g.R.Input.faults l.self.reader ≡ interruptions l._tries;
  limit : l.self.limit ≡ l.initial.self.limit;
  line : l.self.line ≡ l.initial.self.line;
  fault : l.self.fault ≡ l.initial.self.fault;
}
