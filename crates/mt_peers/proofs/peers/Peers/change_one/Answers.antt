use Rattle.std.proofs.Common.{ℕ, true, cond, ◌&&◌, ◌+◌, List, sym, ap, ◌∙◌, is_none}
use Rattle.mt_peers.specs.declared.state.State.{State}
use Rattle.mt_peers.specs.Peers.{Peer, PeersView, peering_of, with_state}
use Rattle.mt_peers.specs.Making.{changed, is_shared}
use Rattle.mt_peers.proofs.MemberLaws.{peering}
use Rattle.mt_peers.proofs.EachLaws.{made-absent, made-one}
use Rattle.mt_peers.proofs.peers.Peers.change_one.Goals as goal

pub returns-in_default-clause-unsettled : goal.returns-in_default-clause-unsettled
returns-in_default-clause-unsettled c = made-absent c.args.kind c.args.id (peering_of c.args.self.now) c.allocator-alloc.ensures.rising (sym c.state.ensures ∙ c.in_default.is)

pub returns-clause-unsettled : goal.returns-clause-unsettled
returns-clause-unsettled c =
    let was = c.in-Some.was in
    let k = c.args.kind in
    let es = c.args.self.now.peers in
    ap (λ (s : PeersView). peering s.peers c.fresh_after-self-inside.result) c.self.view_is
    ∙ ap (λ (ps : List Peer). peering ps c.fresh_after-self-inside.result) (c.bring.ensures.peers ∙ ap (λ (s : State). with_state c.args.id s es) (c.state_after-state.ensures ∙ ap (λ (n : ℕ). changed k n was) c.next_group-fresh.ensures))
    ∙ ap (peering (with_state c.args.id (changed k c.args.self.now.next was) es)) (c.fresh_after-self-inside.ensures ∙ ap (λ (n : ℕ). cond (is_shared k && (true && is_none was.group)) (n + 1) n) c.next_group-fresh.ensures)
    ∙ made-one k c.args.id (peering_of c.args.self.now) c.allocator-alloc.ensures.rising was (sym c.state.ensures ∙ c.in-Some.is)
