use Rattle.std.proofs.Common.{◌≡◌, None}
use Rattle.mt_lines.specs.Reading.{fault_of}
use Rattle.mountctl.proofs.script.run_script.Given as goal

-- the reader of the connection has met no fault
abbrev pub invariant-lines : goal.invariant-lines
invariant-lines g l = fault_of l.lines ≡ None
