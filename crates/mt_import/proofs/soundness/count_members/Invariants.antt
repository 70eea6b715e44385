use Rattle.std.proofs.Common.{◌≡◌, ◌+◌, ◌≤◌, drop, map}
use Rattle.mt_import.specs.Plans.{count_members}
use Rattle.mt_import.proofs.soundness.count_members.Given as goal

-- those that were counted and those among the others are all
abbrev pub invariant-rows : goal.invariant-rows
invariant-rows l = record {
  left : l.count + count_members (map (λ row. row.now) (drop l.row-index l.rows)) l.group ≡ count_members (map (λ row. row.now) l.rows) l.group;
  few : l.count ≤ l.row-index;
}
