use Rattle.std.proofs.Common.{◌≡◌, ◌||◌, ◌++◌, ℕ, false, List, [], ◌∷◌, map, length, sym, ap, ◌∙◌, subst, Ok}
use Rattle.std.proofs.lemmas.Bool.{or_parts}
use Rattle.mt_skel.specs.declared.fault.Fault.TheVariants.{Unbindable, TooMany}
use Rattle.mt_skel.specs.Keyed.{rises}
use Rattle.mt_skel.specs.Outcome.{outcome}
use Rattle.mt_skel.proofs.OutcomeLaws.{passed}
use Rattle.mt_mounts.specs.declared.mount.Mount.{Mount}
use Rattle.mt_mounts.specs.Forest.{id_of}
use Rattle.mt_peers.specs.Peers.{peers_of}
use Rattle.mt_propagate.specs.World.{WorldView, world_view, with_tree, state_of}
use Rattle.mt_propagate.specs.Limits.{too_many_mounts, too_many_spaces}
use Rattle.mt_propagate.specs.WellFormed.{IsForest, IsWellFormed}
use Rattle.mt_bind.specs.Copying.{copy_of, peer_of, with_copies}
use Rattle.mt_bind.specs.Opening.{opened_sources, with_opened, opened_refusals, opened_effect}
use Rattle.mt_bind.proofs.SourceCopyLaws.{AreSources, AreShown}
use Rattle.mt_bind.proofs.CopyLaws.{AreCopies, added-forest, added-rise, copies-made}
use Rattle.mt_bind.proofs.OpeningLaws.{opened_kept}
use Rattle.mt_bind.proofs.OpenedSourceLaws.{opened-sources, opened-root, opened-shown}
use Rattle.mt_bind.proofs.opening.open_tree.Goals.{After-deref-4}
use Rattle.mt_bind.proofs.opening.open_tree.Goals as goal

pub copies-requires-clause-rising : goal.copies-requires-clause-rising
copies-requires-clause-rising c =
    let t = opened-sources (world_view c.args.world.now) c.args.space c.args.path.now c.args.recursive c.in_ok-from.from c.requires.well_formed (sym c.walk.ensures ∙ c.in_ok-from.was) in
    ap (rises id_of) (c.deref.ensures.value ∙ c.in_ok-sources.ensures.sources) ∙ t.rising

pub states-requires-clause-rising : goal.states-requires-clause-rising
states-requires-clause-rising c =
    let t = opened-sources (world_view c.args.world.now) c.args.space c.args.path.now c.args.recursive c.in_ok-from.from c.requires.well_formed (sym c.walk.ensures ∙ c.in_ok-from.was) in
    ap (rises id_of) (c.deref-2.ensures.value ∙ c.in_ok-sources.ensures.sources) ∙ t.rising

-- what is copied
tree : (c : After-deref-4) → AreSources (world_view c.args.world.now) (opened_sources (world_view c.args.world.now) c.args.recursive c.in_ok-from.from)
tree c = opened-sources (world_view c.args.world.now) c.args.space c.args.path.now c.args.recursive c.in_ok-from.from c.requires.well_formed (sym c.walk.ensures ∙ c.in_ok-from.was)

shown : (c : After-deref-4) → AreShown (world_view c.args.world.now) (opened_sources (world_view c.args.world.now) c.args.recursive c.in_ok-from.from)
shown c = opened-shown (world_view c.args.world.now) c.args.space c.args.path.now c.args.recursive c.in_ok-from.from c.requires.well_formed (sym c.walk.ensures ∙ c.in_ok-from.was)

-- what is added are the copies
abbrev AreAdded : (c : After-deref-4) → Type 0
AreAdded c =
    let w = world_view c.args.world.now in
    AreCopies w c.requires.well_formed (opened_sources w c.args.recursive c.in_ok-from.from) (tree c) (shown c) false (world_view c.add_tree.new.self) (w.trees ++ w.next_space ∷ []) c.deref-3.result.now c.deref-4.result.now

made : (c : After-deref-4) → AreAdded c
made c =
    let w = world_view c.args.world.now in
    record {
      still = c.in_ok-add_tree.ensures.world ∙ ap (λ (v : WorldView). with_tree v v.next_space) c.in_ok-make_room.ensures.world;
      mounts = c.deref-3.ensures.value ∙ c.in_ok-mounts.ensures.copies ∙ ap (λ (ms : List Mount). map (copy_of w (map id_of ms)) ms) (c.deref.ensures.value ∙ c.in_ok-sources.ensures.sources);
      states = ap peers_of c.deref-4.ensures.value ∙ c.in_ok-states.ensures.states ∙ ap (λ (ms : List Mount). map (peer_of w (map id_of ms) false) ms) (c.deref-2.ensures.value ∙ c.in_ok-sources.ensures.sources);
    }

-- the mounts once they are
added : (c : After-deref-4) → IsForest c.args.world.now.skel (c.add_tree.new.self.forest.mounts ++ c.deref-3.result.now)
added c = added-forest _ _ _ (tree c) (shown c) false _ _ _ _ (made c)

pub add_space-requires-clause-rising : goal.add_space-requires-clause-rising
add_space-requires-clause-rising c = (added c).rising

pub add_space-requires-clause-apart : goal.add_space-requires-clause-apart
add_space-requires-clause-apart c = (added c).apart

pub add_space-requires-clause-roots : goal.add_space-requires-clause-roots
add_space-requires-clause-roots c = (added c).one_root

pub add_space-requires-clause-states : goal.add_space-requires-clause-states
add_space-requires-clause-states c = added-rise _ _ _ (tree c) (shown c) false _ _ _ _ (made c)

-- the world after the call
is_opened : (c : goal.After-drop-sources-2) → world_view c.add_space.new.world ≡ with_opened (world_view c.args.world.now) (opened_sources (world_view c.args.world.now) c.args.recursive c.in_ok-from.from)
unfolding with_copies
is_opened c =
    let d = goal.at.returns-clause-done c in
    copies-made _ _ _ (tree d.After-deref-4) (shown d.After-deref-4) false _ _ _ _ (made d.After-deref-4) (world_view c.add_space.new.world)
    c.add_space.ensures.forest c.add_space.ensures.peers c.add_space.ensures.same c.add_space.ensures.next c.add_space.ensures.trees c.add_space.ensures.locks

pub returns-clause-done : goal.returns-clause-done
returns-clause-done c =
    let w = world_view c.args.world.now in
    let p = c.in_ok-from.from in
    let ms = opened_sources w c.args.recursive p in
    let more = c.len.ensures ∙ c.in_ok-sources.sources.ok.0 ∙ ap length c.in_ok-sources.ensures.sources in
    let number = c.add_space.ensures.space ∙ ap (λ (v : WorldView). v.next_space) (c.in_ok-add_tree.ensures.world ∙ ap (λ (v : WorldView). with_tree v v.next_space) c.in_ok-make_room.ensures.world) in
    let few = or_parts (too_many_spaces w) (too_many_mounts w (length ms)) (ap (λ (k : ℕ). too_many_spaces w || too_many_mounts w k) (sym more) ∙ sym c.too_many.ensures ∙ c.if-too_many.false) in
    let ended = sym c.walk.ensures ∙ c.in_ok-from.was in
    (λ i. outcome (opened_refusals w c.args.recursive (ended i)) (opened_effect w c.args.recursive (ended i)))
    ∙ passed (state_of w p.mount).unbindable Unbindable _ _ (sym c.is_unbindable.ensures ∙ c.if-is_unbindable.false)
    ∙ passed (too_many_spaces w) TooMany _ _ few.0
    ∙ passed (too_many_mounts w (length ms)) TooMany [] _ few.1
    ∙ (λ i. Ok (sym (is_opened c) i, sym number i))

pub returns-clause-kept : goal.returns-clause-kept
returns-clause-kept c =
    let d = goal.at.returns-clause-kept c in
    subst IsWellFormed (sym (is_opened c))
    (opened_kept _ c.requires.well_formed _ (tree d.After-deref-4) (shown d.After-deref-4)
    (opened-root (world_view c.args.world.now) c.args.space c.args.path.now c.args.recursive c.in_ok-from.from c.requires.well_formed (sym c.walk.ensures ∙ c.in_ok-from.was)))
