use Rattle.std.proofs.Common.{◌≡◌, ◌++◌, map, drop}
use Rattle.mt_propagate.specs.World.{world_view}
use Rattle.mt_reach.specs.Seen.{seen_mount, seen_rows}
use Rattle.mt_what_if.proofs.reasons.rows_of.Given as goal

-- the rows of the mounts passed, and of those to come, and the groups are those of the world
abbrev pub invariant-listed : goal.invariant-listed
invariant-listed l = record {
  rows : l.rows.items ++ map (seen_mount (world_view l.world)) (drop l.mount-index l.mount-items) ≡ seen_rows (world_view l.world);
  same : l.seen ≡ l.world;
}
