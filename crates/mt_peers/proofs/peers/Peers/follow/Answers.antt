use Rattle.std.proofs.Common.{List, sym, ap, ◌∙◌, subst}
use Rattle.mt_lists.specs.Log.{earlier}
use Rattle.mt_peers.specs.declared.entries.Entry.{Entry}
use Rattle.mt_peers.specs.Peers.{state_at}
use Rattle.mt_peers.specs.Members.{group_at, master_at}
use Rattle.mt_peers.specs.Listed.{MastersLive}
use Rattle.mt_peers.specs.Entries.{now_peers}
use Rattle.mt_peers.proofs.SinceLaws.{alike_seen, groups_alike, masters_alike, listed_as}
use Rattle.mt_peers.proofs.peers.Peers.follow.Goals as goal

pub follow_lists-requires-clause-groups : goal.follow_lists-requires-clause-groups
follow_lists-requires-clause-groups c =
    groups_alike _ _ _ _ _ c.self.invariant.listed (alike_seen c.args.self.now c.args.ids.now c.self.view_is c.in_ok-reserve.ensures.peering c.other.view_is (ap now_peers c.deref.ensures.value) c.requires.alike)

pub follow_lists-requires-clause-masters : goal.follow_lists-requires-clause-masters
follow_lists-requires-clause-masters c =
    masters_alike _ _ _ _ _ c.self.invariant.listed (alike_seen c.args.self.now c.args.ids.now c.self.view_is c.in_ok-reserve.ensures.peering c.other.view_is (ap now_peers c.deref.ensures.value) c.requires.alike)

pub invariant_of-self-2 : goal.invariant_of-self-2
invariant_of-self-2 c = record {
  listed =
      listed_as (now_peers c.other.inside.entries.items) (now_peers c.follow_entries.new.entries.items) c.other.inside.members.rows c.other.inside.slaves.rows c.follow_lists.new.members.rows
      c.follow_lists.new.slaves.rows c.other.invariant.listed (c.follow_entries.ensures.peers ∙ ap now_peers c.deref-2.ensures.value)
      (c.follow_lists.ensures.members.0, λ i. c.follow_lists.ensures.members.1 i ∙ ap (λ (es : List Entry). group_at (now_peers es) i) c.deref.ensures.value)
      (c.follow_lists.ensures.slaves.0, λ i. c.follow_lists.ensures.slaves.1 i ∙ ap (λ (es : List Entry). master_at (now_peers es) i) c.deref.ensures.value);
  known = λ i n. ap (λ l. state_at (earlier l (λ v. now_peers v.items)) i) c.of-self-inside.ensures;
  led = λ t. subst MastersLive (sym (c.follow_entries.ensures.peers ∙ ap now_peers c.deref-2.ensures.value)) (c.other.invariant.led t);
}
