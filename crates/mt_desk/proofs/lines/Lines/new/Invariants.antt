use Rattle.std.proofs.Common.{◌≡◌, length}
use Rattle.std.specs.List.{AllByRecursion}
use Rattle.mt_desk.specs.Places.{IsLine, IsParked}
use Rattle.mt_desk.proofs.lines.Lines.new.Given as goal

-- so many lines were made, none of them in use
abbrev pub invariant-lines : goal.invariant-lines
invariant-lines l = record {
  count : length l.slots.items ≡ l._count;
  each : AllByRecursion (IsLine l.capacity) l.slots.items;
  parked : AllByRecursion IsParked l.slots.items;
}
