use Rattle.std.proofs.Common.{◌≡◌, ◌++◌, map, drop}
use Rattle.std.specs.List.{filter}
use Rattle.mt_reach.specs.Rows.{seen_id}
use Rattle.mt_reach.specs.Reasons.{takes_away}
use Rattle.mt_reach.proofs.origin.takers_of.Given as goal

-- those of the rows passed, and of those to come
abbrev pub invariant-rows : goal.invariant-rows
invariant-rows l =
    l.ids.items ++ map seen_id (filter (takes_away l.rows l.row l.parent) (drop l.other-index l.other-items)) ≡ map seen_id (filter (takes_away l.rows l.row l.parent) l.other-items)
