use Rattle.std.proofs.Common.{◌≡◌, ◌++◌, map, take, drop}
use Rattle.mt_floor.specs.Rows.{row_after_stop}
use Rattle.mt_floor.proofs.rows.end_all.Given as goal

-- the watchers passed have ended, and the others are as they were
abbrev pub invariant-loop-row : goal.invariant-loop-row
invariant-loop-row l = l.row-items ≡ map row_after_stop (take l.row-index l.initial.row-items) ++ drop l.row-index l.initial.row-items
