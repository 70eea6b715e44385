use Rattle.std.proofs.Common.{◌≡◌, None}
use Rattle.mt_lines.specs.Reading.{fault_of}
use Rattle.mountctl.proofs.missing.count_there.Given as goal

-- the reader of the connection has met no fault
abbrev pub invariant-halves : goal.invariant-halves
invariant-halves g l = fault_of l.lines ≡ None
