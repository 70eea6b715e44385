use Rattle.std.proofs.Common.{◌≡◌, None}
use Rattle.mt_lines.specs.Reading.{fault_of}
use Rattle.mountctl.proofs.provide.provide_path.Given as goal

-- the reader of the connection has met no fault
abbrev pub invariant-names : goal.invariant-names
invariant-names g l = fault_of l.lines ≡ None
