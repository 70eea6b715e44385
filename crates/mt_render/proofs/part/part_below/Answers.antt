use Rattle.std.proofs.Common.{List, ◌∙◌, ap, sym}
use Rattle.mt_skel.specs.Keyed.{row_at}
use Rattle.mt_info.specs.declared.row.Row.{Row}
use Rattle.mt_info.specs.Table.{row_id}
use Rattle.mt_render.proofs.part.part_below.Goals as goal

pub returns-in_ok-part_at-in-Some : goal.returns-in_ok-part_at-in-Some
returns-in_ok-part_at-in-Some c =
    let found = ap (λ (rs : List Row). row_at row_id c.args.top rs) (sym c.rows.ensures.rows) ∙ c.in-Some.ensures in
    record { part = (c.in-Some.top.now, found, c.in_ok-part_at-in-Some.ensures) }
