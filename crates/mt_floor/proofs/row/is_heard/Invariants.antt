use Rattle.std.proofs.Common.{◌≡◌, drop}
use Rattle.std.specs.List.{list_any}
use Rattle.mt_floor.specs.Watcher.{is_open}
use Rattle.mt_floor.specs.Rows.{FloorRowView}
use Rattle.mt_floor.proofs.row.is_heard.Given as goal

-- none of the watchers passed is open
abbrev pub invariant-rows : goal.invariant-rows
invariant-rows l = list_any (λ (r : FloorRowView). is_open r.phase) (drop l.row-index l.rows) ≡ list_any (λ (r : FloorRowView). is_open r.phase) l.rows
