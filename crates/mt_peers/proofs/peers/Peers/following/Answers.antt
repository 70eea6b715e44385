use Rattle.std.proofs.Common.{ap, ◌∙◌}
use Rattle.mt_peers.specs.Coming.{members_from}
use Rattle.mt_peers.proofs.ComingLaws.{coming-next}
use Rattle.mt_peers.proofs.ListedLaws.{seen, member-after-listed}
use Rattle.mt_peers.proofs.peers.Peers.following.Goals as goal

pub returns : goal.returns
returns c =
    let es = c.args.self.now.peers in
    let listed = (seen c.self.view_is c.self.invariant).listed in
    ap (members_from es) (c.after.ensures ∙ member-after-listed _ _ _ listed c.args.id) ∙ coming-next es c.args.id listed.rising
