use Rattle.std.proofs.Common.{◌≡◌, ℕ, List, not, sym, ap, ◌∙◌, subst}
use Rattle.std.specs.List.{filter, list_all}
use Rattle.mt_skel.specs.Keyed.{among}
use Rattle.mt_peers.specs.Peers.{Peer, Peering, peering_of}
use Rattle.mt_peers.specs.Loss.{left}
use Rattle.mt_peers.specs.WellFormed.{IsPeering}
use Rattle.mt_peers.specs.Listed.{MastersLive}
use Rattle.mt_peers.specs.Going.{may_go}
use Rattle.mt_peers.proofs.MemberLaws.{peering}
use Rattle.mt_peers.proofs.LeavingLaws.{left-IsPeering}
use Rattle.mt_peers.proofs.LiveLaws.{left-live}
use Rattle.mt_peers.proofs.ListedLaws.{seen, kept-led}
use Rattle.mt_peers.proofs.GoingLaws.{going}
use Rattle.mt_peers.proofs.peers.Peers.leave_in_order.Goals as goal

in_order : {p : Peering} → IsPeering p → MastersLive p.peers
in_order h = record { lives = h.master_lives }

is_left : (c : goal.After-self-1) → peering_of c.take_away.new.self ≡ left (among c.args.ids.now) (peering_of c.args.self.now)
is_left c =
    let ok =
    ap (λ (t : List ℕ). list_all (may_go c.self.inside.members.rows c.self.inside.slaves.rows (among t)) c.args.ids.now) (sym c.new.ensures)
    ∙ sym c.may_all_go.ensures ∙ c.if-may_all_go.true in
    ap (λ (es : List Peer). peering es c.take_away.new.self.next) c.take_away.ensures.peers
    ∙ ap (λ (n : ℕ). peering (filter (λ (e : Peer). not (among c.args.ids.now e.mount)) c.args.self.now.peers) n) c.take_away.ensures.next
    ∙ sym (going (peering_of c.args.self.now) (in_order c.requires.order) c.args.ids.now c.self.inside.members.rows c.self.inside.slaves.rows (seen c.self.view_is c.self.invariant).listed ok)

pub invariant_of-self : goal.invariant_of-self
invariant_of-self c = kept-led c.self-then-may_all_go.view_is (is_left c) (left-live (among c.args.ids.now) (peering_of c.args.self.now)) c.self-then-may_all_go.invariant

pub returns-then-may_all_go-clause-left : goal.returns-then-may_all_go-clause-left
returns-then-may_all_go-clause-left c = ap peering_of c.self-then-may_all_go.view_is ∙ is_left c

pub returns-then-may_all_go-clause-kept : goal.returns-then-may_all_go-clause-kept
returns-then-may_all_go-clause-kept c = subst IsPeering (sym (ap peering_of c.self-then-may_all_go.view_is ∙ is_left c)) (left-IsPeering (peering_of c.args.self.now) c.requires.order (among c.args.ids.now))
