-- The rows of tables.
-- A word with no source is this project's rule.
use Rattle.std.specs.Prelude.{ℕ, ◌^◌, Bool, true, ◌&&◌, ◌||◌, ◌==◌, not, nat_lt, List, [], ◌++◌, Option, codes, decimal}
use Rattle.std.specs.List.{list_any}
use Rattle.std.specs.Option.{option_map_or}
use Rattle.mt_skel.specs.Skeleton.{path_eq}
use Rattle.mt_info.specs.declared.row.Row.{Row}
use Rattle.mt_world.specs.declared.row.TableRow.{TableRow}

-- a mount or a namespace counts from 1, and leaves room for those that come later
abbrev pub is_low_number : ℕ → Bool
is_low_number n = nat_lt 0 n && nat_lt n (2 ^ 62)

abbrev pub is_group : Option ℕ → Bool
is_group group = option_map_or (λ n. nat_lt n (2 ^ 62)) group true

-- the numbers of a row can be those of a mount, a namespace and peer groups
abbrev pub is_numbered : TableRow → Bool
is_numbered r = is_low_number r.id && is_low_number r.space && is_group r.state.group && is_group r.state.master

-- a device of a world, as the lines of its tables print it
abbrev pub device_text : ℕ → List ℕ
device_text minor = codes "0:" ++ decimal minor

-- what a row of the table of a world tells, as one of the table of a number (proc_pid_mountinfo(5), fields 1 to 10)
abbrev pub row_told : ℕ → Row → TableRow
row_told space r = record {
  space = space;
  id = r.id;
  parent = r.parent;
  device = device_text r.minor;
  root = r.root;
  point = r.point;
  attrs = r.attrs;
  state = record { group = r.shared; master = r.master; unbindable = r.unbindable };
  kind = r.kind;
  source = r.source;
}

-- its mount stands at `/` (proc_pid_mountinfo(5), field 5)
abbrev pub is_at_root : TableRow → Bool
is_at_root r = path_eq r.point []

-- it is that of a mount with this ID in a namespace
abbrev pub is_mount_of : ℕ → ℕ → TableRow → Bool
is_mount_of space id r = (r.id == id) && (r.space == space)

-- it is that of a root mount: it stands at `/`, and on itself or on a mount that its table does not have (proc_pid_mountinfo(5), field 2)
abbrev pub is_root_of_table : List TableRow → TableRow → Bool
is_root_of_table rows r = is_at_root r && ((r.parent == r.id) || not (list_any (is_mount_of r.space r.parent) rows))
