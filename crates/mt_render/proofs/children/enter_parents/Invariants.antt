use Rattle.std.proofs.Common.{◌≡◌, ◌+◌, ◌≤◌, take, length}
use Rattle.mt_lists.specs.Numbered.{rows_by}
use Rattle.mt_info.specs.Table.{row_id}
use Rattle.mt_render.specs.Steps.{other_parent}
use Rattle.mt_render.proofs.children.enter_parents.Given as goal

-- the rows that came are listed, and there is room for the others
abbrev pub invariant-rows : goal.invariant-rows
invariant-rows l = record {
  told : l.parents.rows ≡ rows_by row_id other_parent (take l.row-index l.rows);
  room : length l.rows ≤ l.parents.room + l.row-index;
}
