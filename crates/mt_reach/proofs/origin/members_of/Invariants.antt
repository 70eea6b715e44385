use Rattle.std.proofs.Common.{◌≡◌, ◌++◌, map, drop}
use Rattle.std.specs.List.{filter}
use Rattle.mt_peers.specs.Peers.{names}
use Rattle.mt_reach.specs.declared.row.SeenRow.{SeenRow}
use Rattle.mt_reach.specs.Rows.{seen_id}
use Rattle.mt_reach.proofs.origin.members_of.Given as goal

-- those of the rows passed, and of those to come
abbrev pub invariant-rows : goal.invariant-rows
invariant-rows l =
    l.ids.items ++ map seen_id (filter (λ (r : SeenRow). names r.group l.group) (drop l.row-index l.row-items)) ≡ map seen_id (filter (λ (r : SeenRow). names r.group l.group) l.row-items)
