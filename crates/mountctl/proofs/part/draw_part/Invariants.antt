use Rattle.std.proofs.Common.{◌≡◌, None}
use Rattle.mt_lines.specs.Reading.{fault_of}
use Rattle.mountctl.proofs.part.draw_part.Given as goal

-- the reader of the connection has met no fault
abbrev pub invariant-tries : goal.invariant-tries
invariant-tries g l = fault_of l.lines ≡ None
