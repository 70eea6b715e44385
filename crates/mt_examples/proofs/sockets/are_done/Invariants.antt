use Rattle.std.proofs.Common.{◌≡◌, None}
use Rattle.mt_lines.specs.Reading.{fault_of}
use Rattle.mt_examples.proofs.sockets.are_done.Given as goal

-- no read has failed
abbrev pub invariant-requests : goal.invariant-requests
invariant-requests l = fault_of l.lines ≡ None
