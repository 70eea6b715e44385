use Rattle.std.proofs.Common.{◌≡◌, ◌++◌, map, drop}
use Rattle.std.specs.List.{filter}
use Rattle.mt_reach.specs.declared.upward.Step.TheVariants.{ToMaster}
use Rattle.mt_reach.specs.Rows.{seen_id}
use Rattle.mt_reach.specs.Reached.{is_reached}
use Rattle.mt_reach.proofs.reached.reached.Given as goal

-- those of the rows passed, and of those to come
abbrev pub invariant-rows : goal.invariant-rows
invariant-rows l = record {
  ids : l.ids.items ++ map seen_id (filter (is_reached l.fn.rows l.fn.id l.directory l.group) (drop l.row-index l.row-items))
      ≡ map seen_id (filter (is_reached l.fn.rows l.fn.id l.directory l.group) l.row-items);
  kept : l.upward ≡ record { rows = l.fn.rows; step = ToMaster; goal = l.group };
}
