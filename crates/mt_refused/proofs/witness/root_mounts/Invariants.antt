use Rattle.std.proofs.Common.{◌≡◌, ◌++◌, map, drop}
use Rattle.std.specs.List.{filter}
use Rattle.mt_reach.specs.Rows.{seen_id}
use Rattle.mt_refused.specs.Witnesses.{is_space_root}
use Rattle.mt_refused.proofs.witness.root_mounts.Given as goal

-- those of the rows passed, and of those to come
abbrev pub invariant-rows : goal.invariant-rows
invariant-rows l = l.ids.items ++ map seen_id (filter (is_space_root l.rows) (drop l.row-index l.row-items)) ≡ map seen_id (filter (is_space_root l.rows) l.row-items)
