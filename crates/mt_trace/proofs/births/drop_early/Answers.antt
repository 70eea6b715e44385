use Rattle.std.proofs.Common.{not, ◌==◌, rules}
use Rattle.std.proofs.lemmas.Fn.{filter_same}
use Rattle.mt_trace.proofs.births.drop_early.Goals as goal

pub returns : goal.returns
returns c = filter_same _ (λ other. not (c.args.child == other)) _ (λ x b g r. search rules) c.args.early.now.items c.retain.new.self.items c.retain.ensures.filtered
