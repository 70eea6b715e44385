use Rattle.std.proofs.Common.{◌≡◌, ℕ, ◌+◌, ◌<◌, length, [], ap, sym, subst, ◌∙◌, refl, Ok}
use Rattle.std.specs.Option.{unwrap_or}
use Rattle.mt_skel.specs.declared.fault.Fault.TheVariants.{TooMany}
use Rattle.mt_skel.specs.Keyed.{put}
use Rattle.mt_skel.specs.Outcome.{outcome}
use Rattle.mt_skel.specs.Skeleton.{fs_named}
use Rattle.mt_skel.proofs.OutcomeLaws.{passed}
use Rattle.mt_mounts.specs.declared.mount.Mount.{Mount}
use Rattle.mt_mounts.specs.Forest.{id_of, mount_at, root_mount}
use Rattle.mt_peers.specs.Peers.{mount_of, state_at}
use Rattle.mt_propagate.specs.Limits.{too_many_spaces, too_many_mounts}
use Rattle.mt_propagate.specs.World.{WorldView, world_view, with_tree}
use Rattle.mt_propagate.specs.WellFormed.{IsWellFormed}
use Rattle.mt_propagate.proofs.WalkLaws.{space_free, number_free}
use Rattle.mt_propagate.proofs.PrivateLaws.{new_peer, state_free, forest_after, peers_after, private_world}
use Rattle.mt_bind.proofs.SpaceLaws.{new_root}
use Rattle.mt_bind.proofs.OpeningLaws.{tree_made_kept}
use Rattle.mt_bind.specs.Spaces.{next_root, with_space, new_space_refusals}
use Rattle.mt_bind.specs.Opening.{tree_made_effect}
use Rattle.mt_bind.proofs.opening.new_tree.Goals as goal

-- the world once the number of the tree is listed
listed : (w u v : WorldView) (root : Mount) (fs : ℕ) → v ≡ with_tree u root.space → u ≡ w → root ≡ next_root w fs → v ≡ with_tree w w.next_space
listed w u v root fs made same is = made ∙ (λ i. with_tree (same i) (is i).space)

pub add_root-requires-clause-absent : goal.add_root-requires-clause-absent
add_root-requires-clause-absent c = (λ i. mount_at ((listed (world_view c.args.world.now) _ _ _ _ c.in_ok-add_tree.ensures.world c.ready_root.ensures.world c.in_ok-root.ensures.root) i).forest (c.in_ok-root.ensures.root i).id) ∙ number_free (world_view c.args.world.now) c.requires.well_formed

pub add_root-requires-clause-first : goal.add_root-requires-clause-first
add_root-requires-clause-first c = (λ i. root_mount ((listed (world_view c.args.world.now) _ _ _ _ c.in_ok-add_tree.ensures.world c.ready_root.ensures.world c.in_ok-root.ensures.root) i).forest (c.in_ok-root.ensures.root i).space) ∙ space_free (world_view c.args.world.now) c.requires.well_formed

pub add_root-requires-clause-stateless : goal.add_root-requires-clause-stateless
add_root-requires-clause-stateless c =
    (λ i. state_at ((listed (world_view c.args.world.now) _ _ _ _ c.in_ok-add_tree.ensures.world c.ready_root.ensures.world c.in_ok-root.ensures.root) i).peering.peers (c.in_ok-root.ensures.root i).id) ∙ state_free (world_view c.args.world.now) c.requires.well_formed

-- the number of the filesystem
abbrev fs : goal.After-add_root → ℕ
fs c = unwrap_or (fs_named c.args.world.now.skel c.args.fs.now) 0

-- the world after the call
is_made : (c : goal.After-add_root) → world_view c.add_root.new.world ≡ with_tree (with_space (world_view c.args.world.now) (fs c)) c.args.world.now.next_space
unfolding with_space
is_made c =
    let w = world_view c.args.world.now in
    let still = listed (world_view c.args.world.now) _ _ _ _ c.in_ok-add_tree.ensures.world c.ready_root.ensures.world c.in_ok-root.ensures.root in
    let root = c.in_ok-root.ensures.root in
    let m = new_root w (fs c) in
    private_world (with_tree w w.next_space) _ m (w.next_space + 1) (c.add_root.ensures.same.0 ∙ ap (λ (v : WorldView). v.skel) still)
    (forest_after w m _ _ c.requires.well_formed refl (c.add_root.ensures.forest ∙ ap (λ (m : Mount). put id_of m c.add_tree.new.self.forest.mounts) root) (ap (λ (v : WorldView). v.forest) still))
    (peers_after w _ _ c.requires.well_formed (c.add_root.ensures.peers ∙ ap (λ (m : Mount). put mount_of (new_peer m.id) c.add_tree.new.self.peers.peers) root) (ap (λ (v : WorldView). v.peering.peers) still))
    (c.add_root.ensures.same.1 ∙ ap (λ (v : WorldView). v.peering.next) still)
    (c.add_root.ensures.next.0 ∙ ap (λ (v : WorldView). v.next_mount + 1) still) (c.add_root.ensures.next.1 ∙ ap (λ (v : WorldView). v.next_space + 1) still)
    (c.add_root.ensures.same.2 ∙ ap (λ (v : WorldView). v.trees) still) (c.add_root.ensures.same.3 ∙ ap (λ (v : WorldView). v.locks) still)

pub returns-clause-done : goal.returns-clause-done
returns-clause-done c =
    let w = world_view c.args.world.now in
    let p = c.in_ok-root.ensures.passed in
    let number = c.add_root.ensures.space ∙ ap (λ (m : Mount). m.space) c.in_ok-root.ensures.root in
    (λ i. outcome (new_space_refusals w (p.0 i)) (tree_made_effect w (p.0 i))) ∙ passed (too_many_spaces w) TooMany _ _ p.1 ∙ passed (too_many_mounts w 1) TooMany [] _ p.2
    ∙ (λ i. Ok (sym (is_made c) i, sym number i))

pub returns-clause-kept : goal.returns-clause-kept
returns-clause-kept c =
    let w = world_view c.args.world.now in
    subst IsWellFormed (sym (is_made c)) (tree_made_kept w (fs c) c.requires.well_formed (subst (λ (m : Mount). m.root < length w.skel.directories) c.in_ok-root.ensures.root c.in_ok-root.ensures.there))
