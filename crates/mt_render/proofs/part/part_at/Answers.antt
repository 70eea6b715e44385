use Rattle.std.proofs.Common.{nat_eq, ◌∙◌, ap}
use Rattle.std.specs.HashSet.{contains}
use Rattle.mt_skel.specs.Keyed.{rises}
use Rattle.mt_skel.proofs.KeyedLaws.{rises-filter}
use Rattle.mt_info.specs.Table.{row_id}
use Rattle.mt_render.specs.Parts.{is_in_part}
use Rattle.mt_render.proofs.PartLaws.{part_told}
use Rattle.mt_render.proofs.part.part_at.Goals as goal

pub new-requires : goal.new-requires
new-requires c =
    let test = is_in_part (contains nat_eq c.in_ok-ids.ids) c.args.top.now c.deref.result.now in
    record { rising = ap (rises row_id) c.in_ok-rows.ensures ∙ rises-filter row_id test c.rows.result.now (ap (rises row_id) c.rows.ensures.rows ∙ c.rows.ensures.rising) }

pub returns : goal.returns
returns c =
    let path = c.deref.ensures.value ∙ c.in_ok-path.ensures in
    c.new.ensures.table
    ∙ part_told (contains nat_eq c.in_ok-ids.ids) c.rows.result.now c.args.table.now c.in_ok-rows.rows.items c.args.top.now c.deref.result.now c.args.path.now c.in_ok-ids.ensures c.rows.ensures.rows path c.in_ok-rows.ensures
