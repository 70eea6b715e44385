use Rattle.std.proofs.Common.{length, sym, ap, ◌∙◌}
use Rattle.mt_lists.specs.Numbered.{rows_by}
use Rattle.mt_peers.specs.Peers.{mount_of}
use Rattle.mt_peers.specs.Making.{made}
use Rattle.mt_peers.specs.Entries.{now_peers}
use Rattle.mt_peers.specs.Listed.{peer_group, leader_of}
use Rattle.mt_peers.proofs.MemberLaws.{peering}
use Rattle.mt_peers.proofs.ChangeLaws.{made-entries, was-made, rises-changed, was-kept, rises-kept, groups-kept}
use Rattle.mt_peers.proofs.settling.make_entries.Goals as goal

pub list_members-requires-clause-rising : goal.list_members-requires-clause-rising
list_members-requires-clause-rising c = rises-changed _ _ _ _ c.change_all-after.ensures.entries ∙ c.requires.listed.rising

pub list_members-requires-clause-listed : goal.list_members-requires-clause-listed
list_members-requires-clause-listed c = c.requires.listed.members_told ∙ ap (rows_by mount_of peer_group) (sym (was-made _ _ _ _ c.change_all-after.ensures.entries))

pub settle_all-requires-clause-near : goal.settle_all-requires-clause-near
settle_all-requires-clause-near c = c.enter_all.ensures.near (length c.change_all-after.new.entries)

pub list_slaves-requires-clause-rising : goal.list_slaves-requires-clause-rising
list_slaves-requires-clause-rising c = rises-kept _ c.settle_all.ensures.settled ∙ rises-changed _ _ _ _ c.change_all-after.ensures.entries ∙ c.requires.listed.rising

pub list_slaves-requires-clause-listed : goal.list_slaves-requires-clause-listed
list_slaves-requires-clause-listed c =
    c.requires.listed.slaves_told ∙ ap (rows_by mount_of leader_of) (sym (was-kept _ c.settle_all.ensures.settled ∙ was-made _ _ _ _ c.change_all-after.ensures.entries))

pub returns-clause-made : goal.returns-clause-made
unfolding made
returns-clause-made c = λ i. peering ((ap now_peers c.settle_all.ensures.settled ∙ made-entries _ _ _ _ c.change_all-after.ensures.entries) i) (c.change_all-after.ensures.next i)

pub returns-clause-listed : goal.returns-clause-listed
returns-clause-listed c = record {
  rising = rises-kept _ c.settle_all.ensures.settled ∙ rises-changed _ _ _ _ c.change_all-after.ensures.entries ∙ c.requires.listed.rising;
  members_told = c.list_members.ensures.listed ∙ sym (groups-kept _ c.settle_all.ensures.settled);
  slaves_told = c.list_slaves.ensures.listed;
}

pub returns-clause-was : goal.returns-clause-was
returns-clause-was c = was-kept _ c.settle_all.ensures.settled ∙ was-made _ _ _ _ c.change_all-after.ensures.entries
