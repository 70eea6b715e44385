use Rattle.std.proofs.Common.{List, None, sym, ap, ◌∙◌, subst}
use Rattle.mt_skel.specs.Keyed.{put}
use Rattle.mt_mounts.specs.declared.mount.Mount.{Mount}
use Rattle.mt_mounts.specs.Forest.{id_of, mount_at, on, root_mount}
use Rattle.mt_mounts.specs.ForestView.{with_place}
use Rattle.mt_propagate.specs.World.{world_view}
use Rattle.mt_propagate.specs.WellFormed.{IsWellFormed}
use Rattle.mt_bind.specs.Pivoting.{with_pivot}
use Rattle.mt_bind.proofs.PivotingLaws.{pivot_kept, free_still, absent_then, rootless_then, exchanged}
use Rattle.mt_bind.proofs.pivoting.exchange.Goals as goal

pub reattach-requires-clause-free : goal.reattach-requires-clause-free
reattach-requires-clause-free c =
    ap (λ (ms : List Mount). on ms c.args.place) c.remove.ensures.mounts ∙ free_still (world_view c.args.world.now) c.requires.well_formed c.args.new c.args.old c.args.place c.requires.pivot

pub insert-requires-clause-absent : goal.insert-requires-clause-absent
insert-requires-clause-absent c =
    ap (λ (ms : List Mount). mount_at ms c.in-Some.mount.id) (c.reattach.ensures.mounts ∙ ap (with_place c.args.old c.args.place) c.remove.ensures.mounts)
    ∙ absent_then (world_view c.args.world.now) c.requires.well_formed c.args.new c.args.old c.args.place c.requires.pivot c.in-Some.mount (sym c.get.ensures ∙ c.in-Some.is)

pub insert-requires-clause-rootless : goal.insert-requires-clause-rootless
insert-requires-clause-rootless c _ =
    ap (λ (ms : List Mount). root_mount ms c.in-Some.mount.space) (c.reattach.ensures.mounts ∙ ap (with_place c.args.old c.args.place) c.remove.ensures.mounts)
    ∙ rootless_then (world_view c.args.world.now) c.requires.well_formed c.args.new c.args.old c.args.place c.requires.pivot c.in-Some.mount (sym c.get.ensures ∙ c.in-Some.is)

-- the mounts after the three changes
pub returns-clause-world : goal.returns-clause-world
unfolding with_pivot
returns-clause-world c =
    let w = world_view c.args.world.now in
    let m : Mount = record c.in-Some.mount { place = None } in
    let made =
    c.insert.ensures.mounts ∙ ap (put id_of m) (c.reattach.ensures.mounts ∙ ap (with_place c.args.old c.args.place) c.remove.ensures.mounts)
    ∙ exchanged w c.requires.well_formed c.args.new c.args.old c.args.place c.requires.pivot c.in-Some.mount (sym c.get.ensures ∙ c.in-Some.is) in
    λ i. record w { forest = made i }

pub returns-clause-kept : goal.returns-clause-kept
returns-clause-kept c =
    let w = world_view c.args.world.now in
    subst IsWellFormed (sym (returns-clause-world c)) (pivot_kept w c.args.new c.args.old c.args.place c.requires.well_formed c.requires.pivot)
