use Rattle.std.proofs.Common.{◌≡◌, ◌&&◌, drop, find}
use Rattle.std.specs.Prelude.{is_some}
use Rattle.mt_peers.specs.Peers.{names}
use Rattle.mt_reach.specs.declared.row.SeenRow.{SeenRow}
use Rattle.mt_reach.proofs.upward.told_above.Given as goal

-- none of the rows passed tells it
abbrev pub invariant-rows : goal.invariant-rows
invariant-rows l =
    find (λ (r : SeenRow). names r.master l.group && is_some r.via) (drop l.row-index l.row-items) ≡ find (λ (r : SeenRow). names r.master l.group && is_some r.via) l.row-items
