use Rattle.std.proofs.Common.{◌≡◌, ◌++◌, map, drop}
use Rattle.std.specs.List.{filter}
use Rattle.mt_reach.specs.Rows.{seen_id}
use Rattle.mt_reach.specs.Tree.{stands_on_row}
use Rattle.mt_reach.proofs.refusals.standing_on.Given as goal

-- those of the rows passed, and of those to come
abbrev pub invariant-rows : goal.invariant-rows
invariant-rows l =
    l.ids.items ++ map seen_id (filter (stands_on_row l.parent) (drop l.row-index l.row-items)) ≡ map seen_id (filter (stands_on_row l.parent) l.row-items)
