use Rattle.std.proofs.Common.{◌≡◌, ◌==◌, false, drop, find}
use Rattle.std.specs.Option.{option_map_or}
use Rattle.mt_peers.specs.Peers.{names}
use Rattle.mt_reach.specs.declared.row.SeenRow.{SeenRow}
use Rattle.mt_questions.proofs.reach.tells_first.Given as goal

-- none of the rows passed tells the master
abbrev pub invariant-rows : goal.invariant-rows
invariant-rows l =
    option_map_or (λ (q : SeenRow). q.id == l.row.id) (find (λ (q : SeenRow). names q.master l.master) (drop l.other-index l.other-items)) false
    ≡ option_map_or (λ (q : SeenRow). q.id == l.row.id) (find (λ (q : SeenRow). names q.master l.master) l.other-items) false
