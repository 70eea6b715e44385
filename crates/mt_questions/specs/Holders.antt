-- The mounts that still show a filesystem or a directory, and so pin it.
-- A word with no source is this project's rule.
use Rattle.std.specs.Prelude.{ℕ, Bool, cond, ◌==◌, List, length, map, Option, Some, None}
use Rattle.std.specs.List.{filter}
use Rattle.std.specs.Option.{option_map_or}
use Rattle.std.specs.Str.{bytes_eq}
use Rattle.mt_reach.specs.declared.row.Device.{Device}
use Rattle.mt_reach.specs.declared.row.SeenDirectory.{SeenDirectory}
use Rattle.mt_reach.specs.declared.row.SeenRow.{SeenRow}
use Rattle.mt_reach.specs.Rows.{device_eq}
use Rattle.mt_reach.specs.Reasons.{overlaps, takers_of}
use Rattle.mt_reach.specs.Tree.{seen_children}
use Rattle.mt_reach.specs.Walking.{mount_in_front}
use Rattle.mt_questions.specs.Tables.{SeenView, rows_by_space}

-- a mount that pins: the mount to which the path leads that is its mount point, if that is another one; how many stand on it; and the
-- mounts whose unmount takes it away
pub record HolderView : Type 0 where
  pub mount : ℕ
  pub front : Option ℕ
  pub standing : ℕ
  pub takers : List ℕ

-- what is in front of a mount
abbrev pub other_than : SeenRow → SeenRow → Option ℕ
other_than r f = cond (f.id == r.id) None (Some f.id)

abbrev pub front_id : List SeenRow → SeenRow → Option ℕ
front_id rows r = option_map_or (other_than r) (mount_in_front rows r) None

abbrev pub holder_of : List SeenRow → SeenRow → HolderView
holder_of rows r = record { mount = r.id; front = front_id rows r; standing = length (seen_children rows r.id); takers = takers_of rows r }

-- the mounts of a source
abbrev pub is_source : List ℕ → SeenRow → Bool
is_source word r = bytes_eq r.source word

-- the mounts of a filesystem
abbrev pub is_on : Device → SeenRow → Bool
is_on device r = device_eq r.root.device device

-- the mounts that show a directory, or something in it
abbrev pub shows_part_of : SeenDirectory → SeenRow → Bool
shows_part_of d r = overlaps r.root d

abbrev pub holders_by : SeenView → (SeenRow → Bool) → List HolderView
holders_by t test = map (holder_of t.rows) (filter test (rows_by_space t))
