use Rattle.std.proofs.Common.{◌≡◌, ◌+◌, drop}
use Rattle.std.specs.Prelude.{nat_eq}
use Rattle.std.specs.List.{position_or_len}
use Rattle.mt_propagate.proofs.order.first_index.Given as goal

-- no ID passed is the one that is sought
abbrev pub invariant-ids : goal.invariant-ids
invariant-ids l = record {
  counted : l.index ≡ l.other-index;
  ahead : l.index + position_or_len (nat_eq l.id) (drop l.other-index l.ids) ≡ position_or_len (nat_eq l.id) l.ids;
}
