use Rattle.std.proofs.Common.{◌∙◌, sym, subst}
use Rattle.mt_skel.specs.Keyed.{among}
use Rattle.mt_propagate.specs.World.{world_view}
use Rattle.mt_propagate.specs.WellFormed.{IsWellFormed}
use Rattle.mt_unmount.proofs.LeftLaws.{gone-kept}
use Rattle.mt_unmount.proofs.TakenLaws.{replaced}
use Rattle.mt_unmount.proofs.taking.take_away.Goals as goal

pub replace-requires-clause-free : goal.replace-requires-clause-free
replace-requires-clause-free c =
    (replaced (world_view c.args.world.now) c.requires.well_formed c.args.gone.now c.requires.rising c.requires.can_go (world_view c.make_room.new.world) c.deref-2.result.now
    c.make_room.ensures.world (c.deref-2.ensures.value ∙ c.in_ok-relocations.ensures.relocations)).0

pub returns-clause-gone : goal.returns-clause-gone
returns-clause-gone c =
    c.replace.ensures.world
    ∙ (replaced (world_view c.args.world.now) c.requires.well_formed c.args.gone.now c.requires.rising c.requires.can_go (world_view c.make_room.new.world) c.deref-2.result.now
    c.make_room.ensures.world (c.deref-2.ensures.value ∙ c.in_ok-relocations.ensures.relocations)).1

pub returns-clause-kept : goal.returns-clause-kept
returns-clause-kept c = subst IsWellFormed (sym (returns-clause-gone c)) (gone-kept (world_view c.args.world.now) c.requires.well_formed (among c.args.gone.now) c.requires.can_go)
