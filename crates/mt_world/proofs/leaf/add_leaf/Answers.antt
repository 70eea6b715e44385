use Rattle.std.proofs.Common.{◌≡◌, ◌∙◌, ap, sym, subst}
use Rattle.std.specs.Option.{option_map}
use Rattle.mt_skel.specs.Keyed.{put}
use Rattle.mt_mounts.specs.Forest.{id_of}
use Rattle.mt_peers.specs.Peers.{Peer, Peering, mount_of, state_at}
use Rattle.mt_propagate.specs.World.{world_view, private}
use Rattle.mt_propagate.specs.WellFormed.{IsWellFormed}
use Rattle.mt_world.specs.Leaves.{with_leaf}
use Rattle.mt_world.proofs.FitLaws.{fits}
use Rattle.mt_world.proofs.LeafLaws.{no-state, leaf-kept}
use Rattle.mt_world.proofs.leaf.add_leaf.Goals as goal

pub join-requires-clause-absent : goal.join-requires-clause-absent
join-requires-clause-absent c =
    let w = world_view c.args.world.now in
    let m = c.args.mount in
    ap (λ (p : Peering). state_at p.peers m.id) c.in_ok-reserve-2.ensures.peering
    ∙ ap (option_map (λ (e : Peer). e.state)) (no-state w.forest w.peering.peers m.id c.requires.well_formed.same_mounts (fits w m c.requires.fits).absent)

-- the world after the call
is_made : (c : goal.After-join) → world_view (record {
  skel = c.args.world.now.skel;
  forest = c.insert.new.self;
  peers = c.join.new.self;
  next_mount = c.args.world.now.next_mount;
  next_space = c.args.world.now.next_space;
  trees = c.args.world.now.trees;
  locks = c.args.world.now.locks;
}) ≡ with_leaf (world_view c.args.world.now) c.args.mount
is_made c =
    let w = world_view c.args.world.now in
    let m = c.args.mount in
    λ i. record w {
      forest = (c.insert.ensures.mounts ∙ ap (put id_of m) c.in_ok-reserve.ensures.mounts) i;
      peering = record {
        peers = (c.join.ensures.peers ∙ ap (λ (p : Peering). put mount_of (record { mount = m.id; state = private }) p.peers) c.in_ok-reserve-2.ensures.peering) i;
        next = (c.join.ensures.next ∙ ap (λ (p : Peering). p.next) c.in_ok-reserve-2.ensures.peering) i;
      };
    }

pub returns-clause-done : goal.returns-clause-done
returns-clause-done c = is_made c

pub returns-clause-kept : goal.returns-clause-kept
returns-clause-kept c =
    let w = world_view c.args.world.now in
    let m = c.args.mount in
    subst IsWellFormed (sym (is_made c)) (leaf-kept w m c.requires.well_formed (fits w m c.requires.fits) c.requires.given)
