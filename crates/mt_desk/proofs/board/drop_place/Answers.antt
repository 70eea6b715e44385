use Rattle.std.proofs.Common.{not, ◌==◌, rules}
use Rattle.std.proofs.lemmas.Fn.{filter_same}
use Rattle.mt_desk.proofs.board.drop_place.Goals as goal

pub returns-clause-items : goal.returns-clause-items
returns-clause-items c = filter_same _ (λ k. not (k == c.args.place)) _ (λ x b g r. search rules) c.args.order.now.items c.retain.new.self.items c.retain.ensures.filtered
