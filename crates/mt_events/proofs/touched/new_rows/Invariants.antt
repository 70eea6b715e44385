use Rattle.std.proofs.Common.{◌≡◌, ◌++◌, drop}
use Rattle.mt_propagate.specs.World.{world_view}
use Rattle.mt_info.specs.Table.{table_of}
use Rattle.mt_events.specs.ByMount.{collected, new_row}
use Rattle.mt_events.proofs.touched.new_rows.Given as goal

-- the rows of the mounts passed, and of those to come, and the groups are those of both worlds
abbrev pub invariant-mounts : goal.invariant-mounts
invariant-mounts l = record {
  rows : l.rows.items ++ collected (new_row (table_of (world_view l.before) l.space) (table_of (world_view l.after) l.space)) (drop l.id-index l.touched) ≡ collected (new_row (table_of (world_view l.before) l.space) (table_of (world_view l.after) l.space)) l.touched;
  same_before : l.old ≡ l.before;
  same_after : l.new ≡ l.after;
}
