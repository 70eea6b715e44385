use Rattle.std.proofs.Common.{◌≡◌, drop}
use Rattle.std.specs.List.{filter, list_all}
use Rattle.mt_peers.specs.Peers.{names}
use Rattle.mt_reach.specs.declared.row.SeenRow.{SeenRow}
use Rattle.mt_reach.specs.Missing.{fits_above}
use Rattle.mt_reach.proofs.missing.may_be_above.Given as goal

-- all slaves among the rows passed allow it
abbrev pub invariant-rows : goal.invariant-rows
invariant-rows l =
    list_all (fits_above l.rows l.group) (filter (λ (r : SeenRow). names r.master l.missing) (drop l.row-index l.row-items)) ≡ list_all (fits_above l.rows l.group) (filter (λ (r : SeenRow). names r.master l.missing) l.row-items)
