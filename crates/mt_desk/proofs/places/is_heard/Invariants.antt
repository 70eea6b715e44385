use Rattle.std.proofs.Common.{◌≡◌, drop}
use Rattle.std.specs.List.{list_any}
use Rattle.mt_desk.specs.Sending.{slot_hears}
use Rattle.mt_desk.proofs.places.is_heard.Given as goal

-- none of the rows passed is open
abbrev pub invariant-slots : goal.invariant-slots
invariant-slots l = list_any slot_hears (drop l.slot-index l.slots) ≡ list_any slot_hears l.slots
