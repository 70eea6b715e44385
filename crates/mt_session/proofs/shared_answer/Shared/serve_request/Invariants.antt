use Rattle.std.proofs.Common.{◌≡◌, IsTrue, ℕ, List, [], ◌≤◌}
use Rattle.std.specs.Io.KnownBytes.{Appends}
use Rattle.mt_session.specs.SharedServing.{IsSoFar}
use Rattle.mt_session.proofs.shared_answer.Shared.serve_request.Given as goal

-- so much of the answer is out
abbrev pub invariant-pieces : goal.invariant-pieces
invariant-pieces g l = record {
  failed : IsTrue g.O.Output.counts → g.O.Output.failed l.initial.writer ≤ g.O.Output.failed l.writer;
  cut_run : IsTrue g.O.Output.counts → g.O.Output.faults l.initial.writer ≡ [] → g.O.Output.faults l.writer ≡ [];
  so_far : (out : List ℕ) × IsSoFar l.initial.session l.request out l.told l.session × Appends (g.O.Output.contents l.initial.writer) (g.O.Output.contents l.writer) out;
}
