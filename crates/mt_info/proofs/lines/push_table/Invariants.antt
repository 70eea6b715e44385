use Rattle.std.proofs.Common.{◌≡◌, ◌++◌, map, drop}
use Rattle.std.specs.List.{flat_map}
use Rattle.mt_skel.specs.Front.{IsFront}
use Rattle.mt_propagate.specs.World.{world_view}
use Rattle.mt_info.specs.RowLine.{whole_line}
use Rattle.mt_info.specs.Table.{row_of, table_of}
use Rattle.mt_info.proofs.lines.push_table.Given as goal

-- the lines of the mounts passed, and of those to come, and the groups are those of the world
abbrev pub invariant-mounts : goal.invariant-mounts
invariant-mounts l = record {
  lines : l.text.items ++ flat_map whole_line (map (row_of (world_view l.world)) (drop l.mount-index l.mount-items)) ≡ l.fn.text.items ++ flat_map whole_line (table_of (world_view l.world) l.space);
  kept : IsFront l.fn.text.items l.text.items;
  same : l.seen ≡ l.world;
}
