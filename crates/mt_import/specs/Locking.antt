-- Which mounts of a namespace may be locked (mount_namespaces(7), restrictions on mount namespaces).
-- A word with no source is this project's rule.
use Rattle.std.specs.Prelude.{Bool, not, ◌&&◌, List, is_some}
use Rattle.std.specs.List.{list_any}
use Rattle.std.specs.Str.{bytes_eq}
use Rattle.mt_import.specs.Reading.{ToldMount}

-- a row tells the same mount point, root and device as another one (proc_pid_mountinfo(5), fields 3 to 5)
abbrev pub tells_same_mount : ToldMount → ToldMount → Bool
tells_same_mount row other = bytes_eq other.point row.point && bytes_eq other.root row.root && bytes_eq other.device row.device

-- a mount came with a copy of the first namespace if that has a row of it
abbrev pub is_in_table : List ToldMount → ToldMount → Bool
is_in_table first row = list_any (tells_same_mount row) first

-- a less privileged copy of a mount is as the mount itself is, unless that is a member of a peer group (mount_namespaces(7))
abbrev pub came_as_copy : List ToldMount → ToldMount → Bool
came_as_copy first row = not (is_some row.shared) && is_in_table first row
