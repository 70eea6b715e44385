use Rattle.mt_reach.proofs.AgreeLaws.{walks_agree}
use Rattle.mt_reach.proofs.laws.walks_agree.Goals as goal

pub returns : goal.returns
returns c w n path p s h e = walks_agree w s h n path p e
