use Rattle.std.proofs.Common.{◌≡◌, ◌&&◌, ◌==◌, drop}
use Rattle.std.specs.List.{list_any}
use Rattle.mt_peers.specs.Peers.{names}
use Rattle.mt_reach.specs.declared.row.SeenRow.{SeenRow}
use Rattle.mt_reach.proofs.missing.is_in_space.Given as goal

-- none of the rows passed is a member there
abbrev pub invariant-rows : goal.invariant-rows
invariant-rows l =
    list_any (λ (r : SeenRow). (r.space == l.space) && names r.group l.group) (drop l.row-index l.row-items) ≡ list_any (λ (r : SeenRow). (r.space == l.space) && names r.group l.group) l.row-items
