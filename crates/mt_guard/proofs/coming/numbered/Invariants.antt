use Rattle.std.proofs.Common.{◌≡◌, ◌+◌, ◌++◌, drop}
use Rattle.mt_guard.specs.Coming.{numbered_from}
use Rattle.mt_guard.proofs.coming.numbered.Given as goal

-- the rows passed have their numbers, and the next one is counted
abbrev pub invariant-loop-row : goal.invariant-loop-row
invariant-loop-row l = record {
  count : l.next ≡ l.world.next_mount + l.row-index;
  numbers : l.all.items ++ numbered_from l.next (drop l.row-index l.rows) ≡ numbered_from l.world.next_mount l.rows;
}
