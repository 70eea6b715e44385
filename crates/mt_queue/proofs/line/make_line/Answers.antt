use Rattle.mt_queue.proofs.StepLaws.{begins}
use Rattle.mt_queue.proofs.line.make_line.Goals as goal

pub ruled-requires-clause-rule : goal.ruled-requires-clause-rule
ruled-requires-clause-rule c = begins
