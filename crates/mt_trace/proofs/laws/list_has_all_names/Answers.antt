use Rattle.mt_trace.proofs.CallNameLaws.{all_listed}
use Rattle.mt_trace.proofs.laws.list_has_all_names.Goals as goal

pub returns : goal.returns
returns c = all_listed
