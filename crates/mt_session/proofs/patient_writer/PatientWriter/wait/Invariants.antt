use Rattle.std.specs.Io.KnownBytes.{Keeps}
use Rattle.mt_session.proofs.patient_writer.PatientWriter.wait.Given as goal

-- no byte was written yet
abbrev pub invariant-writes : goal.invariant-writes
invariant-writes g l = record {
  iterator : (goal.iterator-writes g).can_next l._write-iterator × (goal.iterator-writes g).is_finite l._write-iterator;
  kept : Keeps (g.W.Write.contents l.initial.self.inner) (g.W.Write.contents l.self.inner);
}
