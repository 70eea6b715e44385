use Rattle.mt_skel.proofs.IndexLaws.{kept_empty}
use Rattle.mt_skel.proofs.NodeLaws.{skeleton_empty}
use Rattle.mt_skel.proofs.skel.Skel.new.Goals as goal

pub invariant_of-result : goal.invariant_of-result
invariant_of-result c = kept_empty c.new.result.items c.new-2.result.items c.new-3.result c.new.ensures.items c.new-2.ensures.items c.new-3.ensures

pub returns : goal.returns
returns c = skeleton_empty c.new.result.items c.new-2.result.items c.new.ensures.items c.new-2.ensures.items
