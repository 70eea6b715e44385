use Rattle.std.proofs.Common.{◌≡◌, ◌∙◌, ap, sym, subst}
use Rattle.mt_peers.specs.Peers.{Peering, with_state}
use Rattle.mt_propagate.specs.World.{world_view}
use Rattle.mt_propagate.specs.WellFormed.{IsWellFormed}
use Rattle.mt_world.specs.States.{with_joined}
use Rattle.mt_world.proofs.StateLaws.{joined-kept}
use Rattle.mt_world.proofs.joined.join.Goals as goal

-- the world after the call
is_made : (c : goal.After-set_state) → world_view (record {
  skel = c.args.world.now.skel;
  forest = c.args.world.now.forest;
  peers = c.set_state.new.self;
  next_mount = c.args.world.now.next_mount;
  next_space = c.args.world.now.next_space;
  trees = c.args.world.now.trees;
  locks = c.args.world.now.locks;
}) ≡ with_joined (world_view c.args.world.now) c.args.id c.args.state
is_made c =
    let w = world_view c.args.world.now in
    λ i. record w {
      peering = record {
        peers = (c.set_state.ensures.peers ∙ ap (λ (p : Peering). with_state c.args.id c.args.state p.peers) c.in_ok-reserve.ensures.peering) i;
        next = (c.set_state.ensures.next ∙ ap (λ (p : Peering). p.next) c.in_ok-reserve.ensures.peering) i;
      };
    }

pub returns-clause-joined : goal.returns-clause-joined
returns-clause-joined c _ = is_made c

pub returns-clause-kept : goal.returns-clause-kept
returns-clause-kept c =
    let w = world_view c.args.world.now in
    subst IsWellFormed (sym (is_made c)) (joined-kept w c.args.id c.args.state c.requires.well_formed c.requires.there.0 c.requires.there.1 c.requires.private (c.why_unjoined.ensures c.in_default.is))
