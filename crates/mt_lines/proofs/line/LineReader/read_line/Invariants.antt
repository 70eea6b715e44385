use Rattle.std.proofs.Common.{◌≡◌, ◌≤◌, ◌+◌, ◌-◌, IsTrue, [], vec_len}
use Rattle.std.specs.Io.KnownBytes.{prepend_known}
use Rattle.mt_lines.specs.declared.line.TheConstants.{CHUNK}
use Rattle.mt_lines.specs.Lines.{slack}
use Rattle.mt_lines.proofs.LineLaws.{Consumed}
use Rattle.mt_lines.proofs.line.LineReader.read_line.Given as goal

abbrev pub invariant-reading : goal.invariant-reading
invariant-reading g l = record {
  same : l.self.limit ≡ l.initial.self.limit;
  fault : l.self.fault ≡ l.initial.self.fault;
  failed : IsTrue g.R.Input.counts → g.R.Input.failed l.initial.self.reader ≤ g.R.Input.failed l.self.reader;
  faults : IsTrue g.R.Input.counts → g.R.Input.faults l.initial.self.reader ≡ [] → g.R.Input.faults l.self.reader ≡ [];
  kept : vec_len l.self.line ≤ l.initial.self.limit;
  small : l.seen ≤ l.initial.self.limit + slack + CHUNK;
  consumed : Consumed l.initial.self.limit l.seen l.self.line.items (prepend_known l.initial.self.chunk (g.R.Input.remaining l.initial.self.reader)) (prepend_known l.self.chunk (g.R.Input.remaining l.self.reader));
}

abbrev pub decreases-reading : goal.decreases-reading
decreases-reading g l = l.initial.self.limit + slack + 1 - l.seen
