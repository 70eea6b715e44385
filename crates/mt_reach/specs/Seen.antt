-- The rows that the tables of all namespaces of a world tell.
-- A word with no source is this project's rule.
use Rattle.std.specs.Prelude.{ℕ, false, List, map}
use Rattle.mt_skel.specs.Skeleton.{directory}
use Rattle.mt_mounts.specs.declared.mount.Mount.{Mount}
use Rattle.mt_propagate.specs.World.{WorldView}
use Rattle.mt_info.specs.declared.row.Row.{Row}
use Rattle.mt_info.specs.Table.{row_of}
use Rattle.mt_reach.specs.declared.row.SeenDirectory.{SeenDirectory}
use Rattle.mt_reach.specs.declared.row.SeenRow.{SeenRow}

-- a row of the table of a namespace; the major number of a server's filesystems is 0
abbrev pub seen_row : ℕ → Row → SeenRow
seen_row n r = record {
  space = n;
  id = r.id;
  parent = r.parent;
  root = record { device = record { major = 0; minor = r.minor }; unlinked = false; path = r.root };
  point = r.point;
  group = r.shared;
  master = r.master;
  via = r.via;
  unbindable = r.unbindable;
  kind = r.kind;
  source = r.source;
}

-- the row of a mount, in the table of its namespace
abbrev pub seen_mount : WorldView → Mount → SeenRow
seen_mount w m = seen_row m.space (row_of w m)

-- the rows of all namespaces, by rising ID
abbrev pub seen_rows : WorldView → List SeenRow
seen_rows w = map (seen_mount w) w.forest

-- a directory of the world, as its rows tell directories
abbrev pub seen_directory : WorldView → ℕ → SeenDirectory
seen_directory w d = record { device = record { major = 0; minor = (directory w.skel d).fs }; unlinked = false; path = (directory w.skel d).path }
