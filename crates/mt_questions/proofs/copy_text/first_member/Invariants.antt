use Rattle.std.proofs.Common.{◌≡◌, drop, find}
use Rattle.mt_peers.specs.Peers.{names}
use Rattle.mt_reach.specs.declared.row.SeenRow.{SeenRow}
use Rattle.mt_questions.proofs.copy_text.first_member.Given as goal

-- none of the rows passed is a member
abbrev pub invariant-rows : goal.invariant-rows
invariant-rows l = find (λ (r : SeenRow). names r.group l.group) (drop l.row-index l.row-items) ≡ find (λ (r : SeenRow). names r.group l.group) l.row-items
