use Rattle.mt_mounts.proofs.SubtreeLaws.{sorted-members}
use Rattle.mt_mounts.proofs.forest.Forest.subtree.Goals as goal

pub returns-clause-subtree : goal.returns-clause-subtree
returns-clause-subtree c =
    sorted-members c.args.self.now.mounts c.args.id c.in_ok-ids.ids.items c.sort.new.self.items c.in_ok-ids.ensures.rising c.in_ok-ids.ensures.members c.in_ok-sort.ensures.permutation c.in_ok-sort.ensures.sorted
