use Rattle.std.proofs.Common.{◌∙◌, ap, ltb, length}
use Rattle.mt_peers.proofs.ListedLaws.{seen}
use Rattle.mt_peers.proofs.SlaveLaws.{any-listed}
use Rattle.mt_peers.proofs.peers.Peers.has_slaves.Goals as goal

pub returns : goal.returns
returns c = ap (ltb 0) (c.len.ensures.len ∙ ap length (seen c.self.view_is c.self.invariant).listed.slaves_told) ∙ any-listed c.args.self.now.peers
