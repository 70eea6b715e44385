use Rattle.std.proofs.Common.{sym, ◌∙◌}
use Rattle.mt_peers.proofs.ListedLaws.{seen, master-of-listed, no-master-listed}
use Rattle.mt_peers.proofs.peers.Peers.master_of.Goals as goal

pub returns-in_err-id : goal.returns-in_err-id
returns-in_err-id c = c.from_residual.ensures ∙ sym (no-master-listed _ _ _ (seen c.self.view_is c.self.invariant).listed c.args.group (sym c.in_err-id.ensures.first))

pub returns : goal.returns
returns c = c.number.ensures.number ∙ master-of-listed _ _ _ (seen c.self.view_is c.self.invariant).listed c.args.group c.in_ok-id.id (sym c.in_ok-id.ensures.first)
