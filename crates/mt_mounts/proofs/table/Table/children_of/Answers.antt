use Rattle.std.proofs.Common.{ap, ◌∙◌}
use Rattle.mt_mounts.specs.Forest.{children}
use Rattle.mt_mounts.specs.Slots.{slab_mounts}
use Rattle.mt_mounts.proofs.AnswerLaws.{child_ids}
use Rattle.mt_mounts.proofs.table.Table.children_of.Goals as goal

pub returns-clause-children : goal.returns-clause-children
returns-clause-children c =
    c.in_ok-ids.ensures.ids ∙ child_ids (slab_mounts c.self.inside.slots) c.self.inside.children.rows c.self.invariant.children.rows c.args.id
    ∙ ap (λ t. children t.mounts c.args.id) c.self.view_is
