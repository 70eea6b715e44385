use Rattle.std.proofs.Common.{◌≡◌, List, [], ◌++◌, refl, sym, ap, ◌∙◌, subst}
use Rattle.std.specs.Vec.{with_items}
use Rattle.std.proofs.lemmas.List.{with_items_is}
use Rattle.mt_skel.specs.Keyed.{among}
use Rattle.mt_peers.specs.declared.entries.Entry.{Entry}
use Rattle.mt_peers.specs.Peers.{Peering, PeersView, mount_of, peering_of}
use Rattle.mt_peers.specs.Making.{made}
use Rattle.mt_peers.specs.WellFormed.{IsPeering}
use Rattle.mt_peers.specs.Entries.{now_peers, noted_of}
use Rattle.mt_peers.specs.Listed.{MastersLive}
use Rattle.mt_peers.proofs.MemberLaws.{peering}
use Rattle.mt_peers.proofs.LiveLaws.{made-live}
use Rattle.mt_peers.proofs.MakingLaws.{made-IsPeering}
use Rattle.mt_peers.proofs.ListedLaws.{listed-is}
use Rattle.mt_peers.proofs.GoingLaws.{all_stay}
use Rattle.mt_peers.proofs.SinceLaws.{known-noted}
use Rattle.mt_peers.proofs.peers.Peers.change_all.Goals as goal

-- the new entries are the states made from the old
is_made : (c : goal.After-self-3-1)
    → peering (now_peers (with_items c.self.inside.entries c.make_entries-next.new.entries).items) c.make_entries-next.result ≡ made c.args.kind (among c.args.ids.now) (peering_of c.args.self.now)
is_made c =
    let written = with_items_is c.self.inside.entries c.make_entries-next.new.entries (c.make_entries-next.auto.entries ∙ c.deref_mut.ensures.len) in
    ap (λ (es : List Entry). peering (now_peers es) c.make_entries-next.result) written
    ∙ c.make_entries-next.ensures.made
    ∙ (λ i. made c.args.kind (among (c.new-chosen.ensures i)) (peering (now_peers (c.deref_mut.ensures.value i)) c.self.inside.next))
    ∙ ap (λ (s : PeersView). made c.args.kind (among c.args.ids.now) (peering_of s)) c.self.view_is

pub returns-clause-kept : goal.returns-clause-kept
returns-clause-kept c h = subst IsPeering (sym (is_made c)) (made-IsPeering (peering_of c.args.self.now) h c.args.kind (among c.args.ids.now))

pub invariant_of-self : goal.invariant_of-self
invariant_of-self c =
    let es = c.make_entries-next.new.entries in
    let written = with_items_is c.self.inside.entries es (c.make_entries-next.auto.entries ∙ c.deref_mut.ensures.len) in
    record {
      listed = listed-is _ _ _ _ _ _ (ap now_peers written) refl refl c.make_entries-next.ensures.listed;
      known =
          known-noted (among []) es _ _ _ _ _ (c.make_entries-next.ensures.was ∙ ap now_peers c.deref_mut.ensures.value) (all_stay mount_of (now_peers es) ∙ ap now_peers (sym written))
          (c.note_changes.ensures.ids ∙ (λ i. c.self.inside.log.ids ++ noted_of (among (c.new.ensures i)) ((c.deref.ensures.value ∙ written) i)))
          c.self.invariant.known;
      led = λ t. subst MastersLive (sym (ap (λ (p : Peering). p.peers) (is_made c))) (made-live c.args.kind (among c.args.ids.now) (peering_of c.args.self.now));
    }
