use Rattle.std.proofs.Common.{◌≡◌, ◌⊎◌, ℕ, ◌<◌, false, Some, subst}
use Rattle.mt_peers.specs.Peers.{has_member}
use Rattle.mt_propagate.specs.World.{world_view}
use Rattle.mt_world.specs.States.{HasMember}
use Rattle.mt_world.proofs.joined.why_unjoined.Goals as goal

pub returns : goal.returns
returns c none =
    let w = world_view c.args.world.now in
    let s = c.args.state.now in
    let shown = c.fs_at-fs.ensures c.requires.there.0 c.requires.there.1 in
    record {
      alone = c.why_not_alone.ensures c.in_default.is;
      group = subst (λ f. (g : ℕ) → s.group ≡ Some g → (g < w.peering.next) × ((has_member w.peering.peers g ≡ false) ⊎ ((m : HasMember w g f) × (m.state.master ≡ s.master)))) shown (c.why_not_in_group.ensures c.in_default-why_not_in_group.is);
      master = subst (λ f. (g : ℕ) → s.master ≡ Some g → HasMember w g f) shown (c.why_not_led.ensures none);
    }
