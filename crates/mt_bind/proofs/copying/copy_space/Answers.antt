use Rattle.std.proofs.Common.{◌≡◌, true, arith, ◌||◌, ◌++◌, ℕ, List, map, length, sym, ap, ◌∙◌, subst, Ok}
use Rattle.std.proofs.lemmas.Bool.{or_parts}
use Rattle.mt_skel.specs.Keyed.{rises}
use Rattle.mt_mounts.specs.declared.mount.Mount.{Mount}
use Rattle.mt_mounts.specs.Forest.{id_of}
use Rattle.mt_peers.specs.Peers.{peers_of}
use Rattle.mt_propagate.specs.World.{WorldView, world_view, is_space}
use Rattle.mt_propagate.specs.Limits.{too_many_mounts, too_many_spaces}
use Rattle.mt_propagate.specs.WellFormed.{IsForest, IsWellFormed}
use Rattle.mt_bind.specs.Spaces.{originals, with_copy}
use Rattle.mt_bind.specs.Copying.{copy_of, peer_of, with_copies}
use Rattle.mt_bind.proofs.NamespaceCopyLaws.{originals-are, originals-shown, copy-kept}
use Rattle.mt_bind.proofs.CopyLaws.{AreCopies, added-forest, added-rise, copies-made}
use Rattle.mt_bind.proofs.copying.copy_space.Goals.{After-deref-4}
use Rattle.mt_bind.proofs.copying.copy_space.Goals as goal

pub copies-requires-clause-rising : goal.copies-requires-clause-rising
copies-requires-clause-rising c = ap (rises id_of) (c.deref.ensures.value ∙ c.in_ok-originals.ensures.mounts) ∙ (originals-are (world_view c.args.world.now) c.requires.well_formed c.args.space).rising

pub states-requires-clause-rising : goal.states-requires-clause-rising
states-requires-clause-rising c = ap (rises id_of) (c.deref-2.ensures.value ∙ c.in_ok-originals.ensures.mounts) ∙ (originals-are (world_view c.args.world.now) c.requires.well_formed c.args.space).rising

-- what is added are the copies
abbrev AreAdded : (c : After-deref-4) → Type 0
AreAdded c =
    let w = world_view c.args.world.now in
    let h = c.requires.well_formed in
    AreCopies w h (originals w c.args.space) (originals-are w h c.args.space) (originals-shown w h c.args.space) c.args.less (world_view c.make_room.new.world) w.trees c.deref-3.result.now c.deref-4.result.now

made : (c : After-deref-4) → AreAdded c
made c =
    let w = world_view c.args.world.now in
    record {
      still = c.in_ok-make_room.ensures.world;
      mounts = c.deref-3.ensures.value ∙ c.in_ok-mounts.ensures.copies ∙ ap (λ (ms : List Mount). map (copy_of w (map id_of ms)) ms) (c.deref.ensures.value ∙ c.in_ok-originals.ensures.mounts);
      states = ap peers_of c.deref-4.ensures.value ∙ c.in_ok-states.ensures.states ∙ ap (λ (ms : List Mount). map (peer_of w (map id_of ms) c.args.less) ms) (c.deref-2.ensures.value ∙ c.in_ok-originals.ensures.mounts);
    }

-- the mounts once they are
added : (c : After-deref-4) → IsForest c.args.world.now.skel (c.make_room.new.world.forest.mounts ++ c.deref-3.result.now)
added c = added-forest _ _ _ _ (originals-shown (world_view c.args.world.now) c.requires.well_formed c.args.space) c.args.less _ _ _ _ (made c)

pub add_space-requires-clause-rising : goal.add_space-requires-clause-rising
add_space-requires-clause-rising c = (added c).rising

pub add_space-requires-clause-apart : goal.add_space-requires-clause-apart
add_space-requires-clause-apart c = (added c).apart

pub add_space-requires-clause-roots : goal.add_space-requires-clause-roots
add_space-requires-clause-roots c = (added c).one_root

pub add_space-requires-clause-states : goal.add_space-requires-clause-states
add_space-requires-clause-states c = added-rise _ _ _ _ (originals-shown (world_view c.args.world.now) c.requires.well_formed c.args.space) c.args.less _ _ _ _ (made c)

-- the world after the call
is_copy : (c : goal.After-drop-originals-2) → world_view c.add_space.new.world ≡ with_copy (world_view c.args.world.now) c.args.space c.args.less
unfolding with_copies
is_copy c =
    copies-made _ _ _ _ (originals-shown (world_view c.args.world.now) c.requires.well_formed c.args.space) c.args.less _ _ _ _ (made (goal.at.returns-clause-done c).After-deref-4) (world_view c.add_space.new.world)
    c.add_space.ensures.forest c.add_space.ensures.peers c.add_space.ensures.same c.add_space.ensures.next c.add_space.ensures.trees c.add_space.ensures.locks

pub returns-clause-done : goal.returns-clause-done
returns-clause-done c =
    let w = world_view c.args.world.now in
    let there : is_space w c.args.space ≡ true = grind (arith, c.root.ensures, c.is_none.ensures, c.if-is_none.false) in
    let more = c.len.ensures ∙ c.in_ok-originals.originals.ok.0 ∙ ap length c.in_ok-originals.ensures.mounts in
    let number = c.add_space.ensures.space ∙ ap (λ (v : WorldView). v.next_space) c.in_ok-make_room.ensures.world in
    let few = or_parts (too_many_spaces w) (too_many_mounts w (length (originals w c.args.space))) (ap (λ (k : ℕ). too_many_spaces w || too_many_mounts w k) (sym more) ∙ sym c.too_many.ensures ∙ c.if-too_many.false) in
    rw (there, sym c.is_tree.ensures ∙ c.if-is_tree.false, few.0, few.1) (λ i. Ok (sym (is_copy c) i, sym number i))

pub returns-clause-kept : goal.returns-clause-kept
returns-clause-kept c = subst IsWellFormed (sym (is_copy c)) (copy-kept (world_view c.args.world.now) c.requires.well_formed c.args.space c.args.less)
