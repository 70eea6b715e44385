use Rattle.mt_reach.proofs.MasterLaws.{masters_more}
use Rattle.mt_reach.proofs.masters.masters_of.Goals as goal

pub rows-preserved : goal.rows-preserved
rows-preserved c =
    masters_more c.args.rows.now c.rows.row-index c.row-item.result c.row-item.result c.rows.masters c.learn_master.new.masters c.row-item.is c.rows-test.true c.rows.invariant c.in_ok-learn_master.ensures.masters
