-- What a line of the server's own tables tells (proc_pid_mountinfo(5)).
-- A word with no source is this project's rule.
use Rattle.std.specs.Prelude.{◌≡◌, Some, ◌++◌, codes, decimal}
use Rattle.std.specs.List.{join_with_byte}
use Rattle.mt_skel.specs.Escapes.{escaped}
use Rattle.mt_info.specs.declared.row.Row.{Row}
use Rattle.mt_info.specs.Laws.{IsRow}
use Rattle.mt_info.specs.RowLine.{line, path_text, option_words}
use Rattle.mt_import.specs.Reading.{ToldMount, mount_in}

-- what the line of a row tells: the numbers of the row, and its other fields as the words of the line
abbrev pub told_of : Row → ToldMount
told_of r = record {
  line = line r;
  id = r.id;
  parent = r.parent;
  device = codes "0:" ++ decimal r.minor;
  root = path_text r.root;
  point = path_text r.point;
  options = join_with_byte 44 (option_words r.attrs);
  shared = r.shared;
  master = r.master;
  via = r.via;
  unbindable = r.unbindable;
  kind = escaped r.kind;
  source = escaped r.source;
}

-- the line of each row is one of a mountinfo, and tells that row
abbrev pub RowsAreTold : Type 0
RowsAreTold = (r : Row) → IsRow r → mount_in (line r) ≡ Some (told_of r)
