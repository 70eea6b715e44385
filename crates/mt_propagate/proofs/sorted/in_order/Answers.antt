use Rattle.mt_propagate.proofs.SortedLaws.{each-rises, each-among}
use Rattle.mt_propagate.proofs.sorted.in_order.Goals as goal

pub returns-clause-rising : goal.returns-clause-rising
returns-clause-rising c = each-rises c.args.numbers.items c.sort_unstable.new.self.items c.dedup.new.self.items c.sort_unstable.ensures.sorted c.dedup.ensures.filtered

pub returns-clause-same : goal.returns-clause-same
returns-clause-same c =
    each-among c.args.numbers.items c.sort_unstable.new.self.items c.dedup.new.self.items c.sort_unstable.ensures.sorted c.dedup.ensures.filtered c.sort_unstable.ensures.permutation
