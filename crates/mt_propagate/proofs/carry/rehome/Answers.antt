use Rattle.std.proofs.Common.{◌≡◌, ℕ, Bool, true, cond, ◌&&◌, ◌==◌, List, map, sym, ap, ◌∙◌, subst}
use Rattle.mt_skel.specs.Keyed.{without}
use Rattle.mt_mounts.specs.declared.mount.Mount.{Mount}
use Rattle.mt_propagate.specs.World.{world_view}
use Rattle.mt_propagate.specs.Copies.{is_whole}
use Rattle.mt_propagate.specs.Carried.{homed, AllCanLeave}
use Rattle.mt_propagate.specs.Plans.{tree_view}
use Rattle.mt_propagate.proofs.RehomedLaws.{none-rehomed, tree-leaves, tree-homed}
use Rattle.mt_propagate.proofs.carry.rehome.Goals as goal

pub returns-then-not-is_whole-clause-world : goal.returns-then-not-is_whole-clause-world
returns-then-not-is_whole-clause-world c = sym (none-rehomed (world_view c.args.world.now) (tree_view c.args.tree.now) c.args.place (sym c.is_whole.ensures ∙ c.if-not-is_whole.true))

pub set_spaces-requires-clause-leave : goal.set_spaces-requires-clause-leave
set_spaces-requires-clause-leave c =
    let whole = sym c.is_whole.ensures ∙ c.if-not-is_whole.false in
    subst (λ (l : List Mount). AllCanLeave c.space_of-space.result l c.args.world.now.forest.mounts) (sym c.deref.ensures.value)
    (tree-leaves c.space_of-space.result (tree_view c.args.tree.now) c.args.world.now.forest.mounts (c.requires.whole whole) whole)

-- the mounts with their namespaces, and the trees without this one
pub returns-clause-world : goal.returns-clause-world
returns-clause-world c =
    let w = world_view c.args.world.now in
    let src = tree_view c.args.tree.now in
    let whole : is_whole src ≡ true = sym c.is_whole.ensures ∙ c.if-not-is_whole.false in
    let mounts = c.set_spaces.ensures.mounts
    ∙ ap (λ (l : List Mount). homed c.space_of-space.result l w.forest) c.deref.ensures.value
    ∙ tree-homed c.space_of-space.result src w.forest (c.requires.whole whole) whole
    ∙ ap (λ (n : ℕ). map (λ (m : Mount). let y : Mount = record m { space = cond (is_whole src && (m.space == src.top.space)) n m.space } in y) w.forest) c.space_of-space.ensures in
    let trees = ap (λ (b : Bool). cond b (without (λ k. k == src.top.space) w.trees) w.trees) (sym whole) in
    c.end_tree.ensures.world ∙ (λ i. record w { forest = mounts i; trees = trees i })
