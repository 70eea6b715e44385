-- What a world tells of the mounts of rows.
-- A word with no source is this project's rule.
use Rattle.std.specs.Prelude.{◌≡◌, List, Some, is_none}
use Rattle.std.specs.Option.{ForSome}
use Rattle.mt_skel.specs.Skeleton.{directory, filesystem}
use Rattle.mt_mounts.specs.declared.mount.Mount.{Mount}
use Rattle.mt_mounts.specs.declared.mount.Place.{Place}
use Rattle.mt_mounts.specs.Forest.{mount_at}
use Rattle.mt_propagate.specs.World.{WorldView}
use Rattle.mt_info.specs.Table.{mount_point}
use Rattle.mt_world.specs.declared.row.TableRow.{TableRow}
use Rattle.mt_world.specs.Rows.{is_root_of_table}

-- a mount of a world shows what a row tells, but for its propagation (proc_pid_mountinfo(5), fields 1 to 6 and 9 to 10): the filesystem of its device is the one
-- of that name
pub record Shows (w : WorldView) (m : Mount) (r : TableRow) : Type 0 where
  pub id : m.id ≡ r.id
  pub space : m.space ≡ r.space
  pub parent : ForSome m.place (λ (p : Place). p.mount ≡ r.parent)
  pub device : (filesystem w.skel (directory w.skel m.root).fs).name ≡ r.device
  pub root : (directory w.skel m.root).path ≡ r.root
  pub point : mount_point w m.id ≡ r.point
  pub attrs : m.attrs ≡ r.attrs

-- a world has the mount of a row: it shows what the row tells, and is a root mount exactly where the row is that of one
pub record IsMounted (w : WorldView) (rows : List TableRow) (r : TableRow) : Type 0 where
  pub mount : Mount
  pub there : mount_at w.forest r.id ≡ Some mount
  pub shows : Shows w mount r
  pub top : is_none mount.place ≡ is_root_of_table rows r
