use Rattle.std.proofs.Common.{◌≡◌, map, length, IsTrue}
use Rattle.std.specs.List.{AllByRecursion}
use Rattle.mt_skel.specs.Keyed.{rises}
use Rattle.mt_info.specs.Laws.{IsRow}
use Rattle.mt_info.specs.RowLine.{line}
use Rattle.mt_info.specs.Table.{row_id}
use Rattle.mt_client.specs.Calls.{AreRead}
use Rattle.mt_client.proofs.RisingLaws.{Follows}
use Rattle.mt_client.proofs.opening.read_rows.Given as goal

-- so many rows were read, by rising ID
abbrev pub invariant-rows : goal.invariant-rows
invariant-rows g l = record {
  many : length l.rows.items ≡ l._row;
  valid : AllByRecursion IsRow l.rows.items;
  rising : IsTrue (rises row_id l.rows.items);
  follows : Follows row_id l.last l.rows.items;
  read : AreRead (map line l.rows.items) l.initial.lines l.lines;
}
