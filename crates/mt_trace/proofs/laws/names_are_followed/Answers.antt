use Rattle.mt_trace.proofs.CallNameLaws.{names_followed}
use Rattle.mt_trace.proofs.laws.names_are_followed.Goals as goal

pub returns : goal.returns
returns c = names_followed
