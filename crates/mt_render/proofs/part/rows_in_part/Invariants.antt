use Rattle.std.proofs.Common.{◌≡◌, ◌++◌, drop, nat_eq}
use Rattle.std.specs.HashSet.{contains}
use Rattle.std.specs.List.{filter}
use Rattle.mt_render.specs.Parts.{is_in_part}
use Rattle.mt_render.proofs.part.rows_in_part.Given as goal

-- the rows that were found, and those to come
abbrev pub invariant-rows : goal.invariant-rows
invariant-rows l =
    l.kept.items ++ filter (is_in_part (contains nat_eq l.ids) l.top l.path) (drop l.row-index l.rows) ≡ filter (is_in_part (contains nat_eq l.ids) l.top l.path) l.rows
