-- What is locked in the world of tables (mount_namespaces(7), restrictions on mount namespaces).
-- A word with no source is this project's rule.
use Rattle.std.specs.Prelude.{ℕ, Bool, not, cond, ◌&&◌, ◌||◌, ◌==◌, List, [], ◌∷◌, is_none}
use Rattle.std.specs.List.{list_all, list_any}
use Rattle.std.specs.Str.{bytes_eq}
use Rattle.mt_skel.specs.Skeleton.{path_eq}
use Rattle.mt_propagate.specs.World.{WorldView}
use Rattle.mt_guard.specs.Changing.{own_locks, with_locks}
use Rattle.mt_world.specs.declared.row.TableRow.{TableRow}

-- another row is one of the first table, and tells the same mount point, root and device (proc_pid_mountinfo(5), fields 3 to 5)
abbrev pub is_counterpart : TableRow → TableRow → Bool
is_counterpart r s = (s.space == 1) && path_eq s.point r.point && path_eq s.root r.root && bytes_eq s.device r.device

-- a mount came with a copy of the first namespace if that has a row of it
abbrev pub came_along : List TableRow → TableRow → Bool
came_along rows r = list_any (is_counterpart r) rows

-- and may be locked if it is in no peer group: in a less privileged copy none is (mount_namespaces(7))
abbrev pub may_be_locked : List TableRow → TableRow → Bool
may_be_locked rows r = is_none r.state.group && came_along rows r

-- so may be all mounts of the table of a number
abbrev pub all_may_be_locked : List TableRow → ℕ → Bool
all_may_be_locked rows n = list_all (λ (r : TableRow). not (r.space == n) || may_be_locked rows r) rows

-- then all of them are locked, their places and attributes (mount_namespaces(7))
abbrev pub with_table_locks : List TableRow → ℕ → WorldView → WorldView
with_table_locks rows n w = cond (all_may_be_locked rows n) (with_locks (own_locks w n) w) w

-- in each foreign namespace
abbrev pub with_foreign_locks : List TableRow → List ℕ → WorldView → WorldView
with_foreign_locks rows [] w = w
with_foreign_locks rows (n ∷ ns) w = with_foreign_locks rows ns (with_table_locks rows n w)
