use Rattle.std.proofs.Common.{◌≡◌, ◌++◌, take}
use Rattle.mt_requests.specs.Printed.{sent}
use Rattle.mt_requests.proofs.print.push_bytes.Given as goal

abbrev pub invariant-loop-byte : goal.invariant-loop-byte
invariant-loop-byte l = l.line.items ≡ l.initial.line.items ++ sent (take l.byte-index l.bytes)
