use Rattle.std.proofs.Common.{◌≡◌, ◌++◌, map, drop}
use Rattle.std.specs.List.{filter}
use Rattle.mt_reach.specs.declared.upward.Step.TheVariants.{ToParent}
use Rattle.mt_reach.specs.Rows.{seen_id}
use Rattle.mt_reach.specs.Refusals.{is_below_in}
use Rattle.mt_reach.proofs.refusals.tree_below.Given as goal

-- those of the rows passed, and of those to come
abbrev pub invariant-rows : goal.invariant-rows
invariant-rows l = record {
  ids : l.ids.items ++ map seen_id (filter (is_below_in l.fn.rows l.fn.id) (drop l.row-index l.row-items)) ≡ map seen_id (filter (is_below_in l.fn.rows l.fn.id) l.row-items);
  kept : l.upward ≡ record { rows = l.fn.rows; step = ToParent; goal = l.fn.id };
}
