use Rattle.std.proofs.Common.{ap, sym, ◌∙◌}
use Rattle.mt_skel.specs.Keyed.{rises}
use Rattle.mt_lists.specs.Numbered.{rows_by}
use Rattle.mt_mounts.specs.Forest.{id_of}
use Rattle.mt_mounts.specs.Slots.{mounts_of}
use Rattle.mt_mounts.specs.Seats.{own_space}
use Rattle.mt_mounts.proofs.SlotLaws.{rises_table}
use Rattle.mt_mounts.proofs.AnswerLaws.{space_ids, space_mounts}
use Rattle.mt_mounts.proofs.table.Table.mounts_in.Goals as goal

pub returns-clause-mounts : goal.returns-clause-mounts
returns-clause-mounts c =
    let ms = c.args.self.now.mounts in
    let v = ap (λ t. t.mounts) c.self.view_is in
    c.in_ok-mounts.ensures.mounts
    ∙ ap (mounts_of ms) (c.deref.ensures.value ∙ c.in_ok-ids.ensures.ids ∙ space_ids ms c.self.inside.spaces.rows (c.self.invariant.spaces.rows ∙ ap (rows_by id_of own_space) v) c.args.space)
    ∙ space_mounts ms c.args.space (ap (rises id_of) (sym v) ∙ rises_table c.self.inside.slots)
