use Rattle.mt_reach.proofs.HitLaws.{reached_hits}
use Rattle.mt_reach.proofs.laws.reached_are_hits.Goals as goal

pub returns : goal.returns
returns c = reached_hits
