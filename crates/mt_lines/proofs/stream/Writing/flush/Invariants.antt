use Rattle.std.specs.Io.KnownBytes.{Keeps}
use Rattle.mt_lines.proofs.stream.Writing.flush.Given as goal

abbrev pub invariant-flushing : goal.invariant-flushing
invariant-flushing g l = Keeps (g.W.Write.contents l.initial.self.inner) (g.W.Write.contents l.self.inner)
