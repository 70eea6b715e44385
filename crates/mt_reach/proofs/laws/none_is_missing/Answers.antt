use Rattle.mt_reach.proofs.MissingLaws.{none_missing}
use Rattle.mt_reach.proofs.laws.none_is_missing.Goals as goal

pub returns : goal.returns
returns c = none_missing
