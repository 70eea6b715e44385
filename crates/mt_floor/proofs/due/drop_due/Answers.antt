use Rattle.std.proofs.Common.{not, ◌==◌, rules}
use Rattle.std.proofs.lemmas.Fn.{filter_same}
use Rattle.mt_floor.specs.Watcher.{Due}
use Rattle.mt_floor.proofs.due.drop_due.Goals as goal

pub returns : goal.returns
returns c = filter_same _ (λ (d : Due). not (d.key == c.args.key)) _ (λ x b g r. search rules) c.args.due.now.items c.retain.new.self.items c.retain.ensures.filtered
