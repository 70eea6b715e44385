use Rattle.std.proofs.Common.{◌≡◌, ◌⊎◌, ◌<◌, false, sym, subst, ◌∙◌, arith}
use Rattle.std.proofs.lemmas.Option.{same_Some}
use Rattle.mt_peers.specs.Peers.{has_member}
use Rattle.mt_propagate.specs.World.{world_view}
use Rattle.mt_world.specs.States.{HasMember}
use Rattle.mt_world.proofs.joined.why_not_in_group.Goals as goal

pub returns : goal.returns
returns c none g e =
    let same = same_Some c.in_ok-group.group g (sym c.in_ok-group.was ∙ e) in
    subst (λ h. (h < c.args.world.now.peers.next) × ((has_member c.args.world.now.peers.peers h ≡ false) ⊎ ((m : HasMember (world_view c.args.world.now) h c.args.fs) × (m.state.master ≡ c.args.state.now.master)))) same
    (omega (arith, c.if-group-next_group.false, c.next_group.ensures), c.why_ungrouped.ensures none)
