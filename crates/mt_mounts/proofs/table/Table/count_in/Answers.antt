use Rattle.std.proofs.Common.{length, ap, ◌∙◌}
use Rattle.std.proofs.lemmas.List.{length-map}
use Rattle.mt_mounts.specs.Forest.{id_of, mounts_in}
use Rattle.mt_mounts.specs.Slots.{slab_mounts}
use Rattle.mt_mounts.proofs.AnswerLaws.{space_ids}
use Rattle.mt_mounts.proofs.table.Table.count_in.Goals as goal

pub returns : goal.returns
returns c =
    let ms = slab_mounts c.self.inside.slots in
    c.count.ensures ∙ ap length (space_ids ms c.self.inside.spaces.rows c.self.invariant.spaces.rows c.args.space)
    ∙ length-map (mounts_in ms c.args.space) id_of
    ∙ ap (λ t. length (mounts_in t.mounts c.args.space)) c.self.view_is
