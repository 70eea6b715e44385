use Rattle.std.proofs.Common.{ap, ◌∙◌, sym}
use Rattle.std.specs.Option.{option_map, option_and_then}
use Rattle.mt_mounts.specs.Forest.{id_of, mount_at, is_root, root_mount}
use Rattle.mt_mounts.proofs.AnswerLaws.{mount_found}
use Rattle.mt_mounts.proofs.forest.Forest.root_mount.Goals as goal

pub returns : goal.returns
returns c =
    c.get.ensures
    ∙ ap (option_and_then (mount_at c.self.inside.table.mounts)) (c.in_ok-id.ensures ∙ ap (λ f. option_map id_of (root_mount f.mounts c.args.space)) (sym c.self.view_is))
    ∙ mount_found (is_root c.args.space) c.self.inside.table.mounts c.self.invariant.0.rising
    ∙ ap (λ f. root_mount f.mounts c.args.space) c.self.view_is
