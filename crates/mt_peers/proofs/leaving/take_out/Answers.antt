use Rattle.std.proofs.Common.{not, ap, ◌∙◌}
use Rattle.mt_skel.specs.Keyed.{among}
use Rattle.mt_peers.specs.Entries.{now_peers}
use Rattle.mt_peers.proofs.LeavingLaws.{now-filter}
use Rattle.mt_peers.proofs.ListedLaws.{listed-is, listed-without}
use Rattle.mt_peers.proofs.leaving.take_out.Goals as goal

pub returns-clause-peers : goal.returns-clause-peers
returns-clause-peers c = ap now_peers c.drop_all.ensures.entries ∙ now-filter (λ i. not (among c.args.ids.now i)) c.args.entries.now.items

pub returns-clause-listed : goal.returns-clause-listed
returns-clause-listed c =
    listed-is _ _ _ _ _ _ (ap now_peers c.drop_all.ensures.entries ∙ now-filter (λ i. not (among c.args.ids.now i)) c.args.entries.now.items) c.forget_all.ensures.rows c.forget_all-2.ensures.rows
    (listed-without (among c.args.ids.now) (now_peers c.args.entries.now.items) c.args.members.now.rows c.args.slaves.now.rows c.requires.listed)
