use Rattle.std.proofs.Common.{ap, ◌∙◌}
use Rattle.std.specs.Option.{option_and_then}
use Rattle.mt_mounts.specs.Forest.{mount_at, on, is_at}
use Rattle.mt_mounts.proofs.AnswerLaws.{mount_found}
use Rattle.mt_mounts.proofs.forest.Forest.standing_at.Goals as goal

pub returns : goal.returns
returns c =
    c.get.ensures ∙ ap (option_and_then (mount_at c.self.inside.table.mounts)) (c.in_ok-id.ensures ∙ c.self.invariant.0.indexed.places c.args.place)
    ∙ mount_found (is_at c.args.place) c.self.inside.table.mounts c.self.invariant.0.rising
    ∙ ap (λ f. on f.mounts c.args.place) c.self.view_is
