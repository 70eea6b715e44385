use Rattle.std.proofs.Common.{◌≡◌, ◌+◌, ◌≤◌, drop, count_by}
use Rattle.mt_what_if.specs.Along.{is_along}
use Rattle.mt_what_if.proofs.along.count_along.Given as goal

-- those counted, and those to come
abbrev pub invariant-rows : goal.invariant-rows
invariant-rows l = record {
  counted : l.count + count_by (is_along l.before l.after) (drop l.row-index l.after) ≡ count_by (is_along l.before l.after) l.after;
  few : l.count ≤ l.row-index;
}
