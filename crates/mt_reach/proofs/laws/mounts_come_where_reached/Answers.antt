use Rattle.mt_reach.proofs.NewLaws.{come_where_reached}
use Rattle.mt_reach.proofs.laws.mounts_come_where_reached.Goals as goal

pub returns : goal.returns
returns c = come_where_reached
