use Rattle.mt_propagate.proofs.TargetLaws.{all_hits}
use Rattle.mt_propagate.proofs.laws.all_hits_are_targets.Goals as goal

pub returns : goal.returns
returns c = all_hits
