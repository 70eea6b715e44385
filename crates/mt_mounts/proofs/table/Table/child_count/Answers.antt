use Rattle.std.proofs.Common.{length, ap, ◌∙◌}
use Rattle.mt_mounts.specs.Forest.{children}
use Rattle.mt_mounts.specs.Slots.{slab_mounts}
use Rattle.mt_mounts.proofs.AnswerLaws.{child_ids}
use Rattle.mt_mounts.proofs.table.Table.child_count.Goals as goal

pub returns : goal.returns
returns c =
    c.count.ensures ∙ ap length (child_ids (slab_mounts c.self.inside.slots) c.self.inside.children.rows c.self.invariant.children.rows c.args.id)
    ∙ ap (λ t. length (children t.mounts c.args.id)) c.self.view_is
