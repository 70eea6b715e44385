use Rattle.std.proofs.Common.{ap, ◌∙◌}
use Rattle.mt_lists.specs.Lists.{first}
use Rattle.mt_peers.proofs.ListedLaws.{seen, slaves-listed}
use Rattle.mt_peers.proofs.peers.Peers.first_slave.Goals as goal

pub returns-clause-first : goal.returns-clause-first
returns-clause-first c = c.first.ensures.first ∙ ap first (slaves-listed _ _ _ (seen c.self.view_is c.self.invariant).listed c.args.group)
