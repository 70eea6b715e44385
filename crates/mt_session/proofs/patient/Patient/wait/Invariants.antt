use Rattle.std.specs.Io.KnownBytes.{Keeps}
use Rattle.mt_session.proofs.patient.Patient.wait.Given as goal

-- no byte was read yet
abbrev pub invariant-reads : goal.invariant-reads
invariant-reads g l = record {
  iterator : (goal.iterator-reads g).can_next l._read-iterator × (goal.iterator-reads g).is_finite l._read-iterator;
  kept : Keeps (g.R.Read.remaining l.initial.self.inner) (g.R.Read.remaining l.self.inner);
}
