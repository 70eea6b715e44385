use Rattle.std.proofs.Common.{◌++◌, List, ap, ◌∙◌}
use Rattle.mt_mounts.specs.declared.mount.Mount.{Mount}
use Rattle.mt_propagate.specs.World.{world_view}
use Rattle.mt_propagate.specs.Places.{stack_last}
use Rattle.mt_propagate.specs.Planned.{first_relocations, relocations_at}
use Rattle.mt_propagate.proofs.plan.decide.Goals as goal

pub returns-clause-relocations : goal.returns-clause-relocations
returns-clause-relocations c =
    let last = c.in_ok-last.ensures.last ∙ ap (λ (l : List Mount). stack_last l c.args.tree.now.top) c.deref-sources.ensures.value in
    c.in_ok-relocations.ensures.relocations
    ∙ ap (λ (m : Mount). first_relocations c.args.layout.now ++ relocations_at c.args.layout.now (world_view c.args.world.now) m c.args.targets.now) last
