use Rattle.std.proofs.Common.{◌≡◌, true, refl, ap, arith, ◌∙◌, subst}
use Rattle.mt_propagate.specs.World.{WorldView, world_view, is_space, with_ended_tree}
use Rattle.mt_propagate.specs.WellFormed.{IsWellFormed}
use Rattle.mt_bind.specs.Spaces.{without_space}
use Rattle.mt_bind.proofs.GoneLaws.{is_dropped, end-kept}
use Rattle.mt_bind.proofs.dropping.drop_space.Goals as goal

-- the namespace is there
there : (c : goal.After-drop-ids-2) → is_space (world_view c.args.world.now) c.args.space ≡ true
there c = grind (arith, c.root.ensures, c.is_none.ensures, c.if-is_none.false)

-- the world after the call
dropped : (c : goal.After-drop-ids-2) → without_space (world_view c.args.world.now) c.args.space ≡ world_view c.end_tree.new.self
dropped c =
    is_dropped (world_view c.args.world.now) c.requires.well_formed c.args.space (there c) (world_view c.make_room.new.world) _ _ c.make_room.ensures.world
    (c.deref.ensures.value ∙ c.in_ok-ids.ensures.ids) (c.end_tree.ensures.world ∙ ap (λ (v : WorldView). with_ended_tree v c.args.space) c.drop_mounts.ensures.world)

pub returns-clause-done : goal.returns-clause-done
returns-clause-done c = rw (there c, dropped c) refl

pub returns-clause-kept : goal.returns-clause-kept
returns-clause-kept c = subst IsWellFormed (dropped c) (end-kept (world_view c.args.world.now) c.requires.well_formed c.args.space)
