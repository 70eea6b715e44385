use Rattle.std.proofs.Common.{◌≡◌, ◌++◌, map, take, drop}
use Rattle.mt_desk.specs.Places.{ended_slot}
use Rattle.mt_desk.proofs.places.end_all.Given as goal

-- the rows passed have ended, and the others are as they were
abbrev pub invariant-slots : goal.invariant-slots
invariant-slots l = l.slot-items ≡ map ended_slot (take l.slot-index l.initial.slot-items) ++ drop l.slot-index l.initial.slot-items
