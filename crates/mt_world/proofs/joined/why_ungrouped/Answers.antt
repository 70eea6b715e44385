use Rattle.std.proofs.Common.{sym, ap, ◌∙◌, inl, inr}
use Rattle.mt_peers.specs.declared.state.State.{State}
use Rattle.mt_propagate.specs.World.{world_view}
use Rattle.mt_world.proofs.MemberLaws.{none_first, member_shows}
use Rattle.mt_world.proofs.joined.why_ungrouped.Goals as goal

pub returns-in_err-member : goal.returns-in_err-member
returns-in_err-member c _ = inl (none_first c.args.world.now.peers.peers c.args.group (sym c.first_member.ensures.first ∙ c.in_err-member.was))

pub returns : goal.returns
returns c none =
    let w = world_view c.args.world.now in
    let e = sym c.first_member.ensures.first ∙ c.in_ok-member.was in
    let shows = c.why_elsewhere.ensures none in
    let m = member_shows w c.args.group c.in_ok-member.member c.args.fs c.requires e shows in
    inr (m.0, ap (λ (s : State). s.master) (m.1 ∙ sym c.state_of-state.ensures) ∙ c.is_same.ensures c.if-not-is_same.false)
