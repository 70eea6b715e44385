use Rattle.mt_propagate.proofs.SortedLaws.{each-increases, each-rises, each-among}
use Rattle.mt_unmount.proofs.gone.Gone.new.Goals as goal

pub invariant_of-result : goal.invariant_of-result
invariant_of-result c = each-increases c.args.ids.items c.sort_unstable.new.self.items c.dedup.new.self.items c.sort_unstable.ensures.sorted c.dedup.ensures.filtered

pub returns-clause-rising : goal.returns-clause-rising
returns-clause-rising c = each-rises c.args.ids.items c.sort_unstable.new.self.items c.dedup.new.self.items c.sort_unstable.ensures.sorted c.dedup.ensures.filtered

pub returns-clause-same : goal.returns-clause-same
returns-clause-same c =
    each-among c.args.ids.items c.sort_unstable.new.self.items c.dedup.new.self.items c.sort_unstable.ensures.sorted c.dedup.ensures.filtered c.sort_unstable.ensures.permutation
