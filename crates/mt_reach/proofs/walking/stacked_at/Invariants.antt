use Rattle.std.proofs.Common.{◌≡◌, drop, find}
use Rattle.mt_reach.specs.Walking.{stands_at}
use Rattle.mt_reach.proofs.walking.stacked_at.Given as goal

-- none of the rows passed stands there
abbrev pub invariant-rows : goal.invariant-rows
invariant-rows l = find (stands_at l.parent l.point) (drop l.row-index l.row-items) ≡ find (stands_at l.parent l.point) l.row-items
