use Rattle.std.proofs.Common.{◌≡◌, drop, find}
use Rattle.mt_reach.specs.Walking.{is_root_row}
use Rattle.mt_reach.proofs.walking.root_row.Given as goal

-- none of the rows passed is the root mount
abbrev pub invariant-rows : goal.invariant-rows
invariant-rows l = find (is_root_row l.rows l.space) (drop l.row-index l.row-items) ≡ find (is_root_row l.rows l.space) l.row-items
