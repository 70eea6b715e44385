use Rattle.mt_desk.proofs.RuleLaws.{begins}
use Rattle.mt_desk.proofs.history.History.new.Goals as goal

pub ruled-requires-clause-rule : goal.ruled-requires-clause-rule
ruled-requires-clause-rule c = begins
