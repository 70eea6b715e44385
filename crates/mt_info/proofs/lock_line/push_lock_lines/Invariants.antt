use Rattle.std.proofs.Common.{◌≡◌, ◌++◌, drop}
use Rattle.std.specs.List.{flat_map}
use Rattle.mt_info.specs.LockLine.{whole_lock_line}
use Rattle.mt_info.proofs.lock_line.push_lock_lines.Given as goal

-- the rows passed have their lines
abbrev pub invariant-loop-row : goal.invariant-loop-row
invariant-loop-row l = l.text.items ++ flat_map whole_lock_line (drop l.row-index l.rows) ≡ l.initial.text.items ++ flat_map whole_lock_line l.rows
