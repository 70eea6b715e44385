use Rattle.std.proofs.Common.{◌≡◌, None}
use Rattle.mt_lines.specs.Reading.{fault_of}
use Rattle.mountctl.proofs.save.save.Given as goal

-- the reader of the connection has met no fault
abbrev pub invariant-times : goal.invariant-times
invariant-times g l = fault_of l.lines ≡ None
