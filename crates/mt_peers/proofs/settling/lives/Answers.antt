use Rattle.std.proofs.Common.{◌∙◌, ap, nat_lt}
use Rattle.mt_peers.proofs.ListedLaws.{lives-listed}
use Rattle.mt_peers.proofs.settling.lives.Goals as goal

pub returns : goal.returns
returns c es told = ap (nat_lt 0) c.count.ensures ∙ lives-listed es c.args.members.now.rows c.args.group told
