use Rattle.std.proofs.Common.{length, ap, ◌∙◌}
use Rattle.mt_mounts.specs.Forest.{roots}
use Rattle.mt_mounts.proofs.AnswerLaws.{root_count}
use Rattle.mt_mounts.proofs.forest.Forest.spaces.Goals as goal

pub returns : goal.returns
returns c =
    c.len.ensures.len ∙ root_count c.self.inside.table.mounts c.self.inside.indexes.roots.rows c.self.invariant.0.indexed.roots
    ∙ ap (λ f. length (roots f.mounts)) c.self.view_is
