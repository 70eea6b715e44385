use Rattle.std.proofs.Common.{◌≡◌, ◌++◌, drop}
use Rattle.std.specs.List.{flat_map}
use Rattle.mt_info.specs.RowLine.{whole_line}
use Rattle.mt_events.proofs.texts.push_rows.Given as goal

-- the lines appended, and those to come
abbrev pub invariant-loop-row : goal.invariant-loop-row
invariant-loop-row l = l.lines.items ++ flat_map whole_line (drop l.row-index l.rows) ≡ l.initial.lines.items ++ flat_map whole_line l.rows
