use Rattle.std.proofs.Common.{◌∙◌}
use Rattle.std.specs.Prelude.{nat_eq, nat_lt}
use Rattle.mt_propagate.proofs.PositionLaws.{index-found}
use Rattle.mt_propagate.proofs.order.Order.has.Goals as goal

pub returns : goal.returns
returns c = (λ i. nat_lt (c.index_of.ensures.index i) (c.len.ensures.len i)) ∙ index-found (nat_eq c.args.id) c.args.self.now
