use Rattle.std.proofs.Common.{◌≡◌, ◌++◌, drop, not}
use Rattle.std.specs.List.{filter}
use Rattle.mt_info.specs.declared.row.Row.{Row}
use Rattle.mt_events.specs.Difference.{is_row_of}
use Rattle.mt_events.proofs.change.new_rows.Given as goal

abbrev pub invariant-rows : goal.invariant-rows
invariant-rows l = l.rows.items ++ filter (λ (r : Row). not (is_row_of l.before r)) (drop l.row-index l.after) ≡ filter (λ (r : Row). not (is_row_of l.before r)) l.after
