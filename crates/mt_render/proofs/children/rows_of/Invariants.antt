use Rattle.std.proofs.Common.{◌≡◌, ◌++◌, map, drop}
use Rattle.std.specs.List.{filter_map}
use Rattle.mt_skel.specs.Keyed.{row_at}
use Rattle.mt_info.specs.Table.{row_id}
use Rattle.mt_render.proofs.children.rows_of.Given as goal

-- the rows that were found, and those to come
abbrev pub invariant-ids : goal.invariant-ids
invariant-ids l = map (λ row. row.now) l.found.items ++ filter_map (λ i. row_at row_id i l.rows) (drop l.id-index l.ids) ≡ filter_map (λ i. row_at row_id i l.rows) l.ids
