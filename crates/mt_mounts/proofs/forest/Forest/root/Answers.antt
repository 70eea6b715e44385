use Rattle.std.proofs.Common.{ap, ◌∙◌}
use Rattle.std.specs.Option.{option_map}
use Rattle.mt_mounts.specs.Forest.{id_of, root_mount}
use Rattle.mt_mounts.proofs.AnswerLaws.{root_first}
use Rattle.mt_mounts.proofs.forest.Forest.root.Goals as goal

pub returns : goal.returns
returns c =
    c.first.ensures.first ∙ root_first c.self.inside.table.mounts c.self.inside.indexes.roots.rows c.self.invariant.0.indexed.roots c.args.space
    ∙ ap (λ f. option_map id_of (root_mount f.mounts c.args.space)) c.self.view_is
