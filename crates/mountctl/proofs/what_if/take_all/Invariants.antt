use Rattle.std.proofs.Common.{◌≡◌, None}
use Rattle.mt_lines.specs.Reading.{fault_of}
use Rattle.mountctl.proofs.what_if.take_all.Given as goal

-- the reader of the connection has met no fault
abbrev pub invariant-takes : goal.invariant-takes
invariant-takes g l = fault_of l.lines ≡ None
