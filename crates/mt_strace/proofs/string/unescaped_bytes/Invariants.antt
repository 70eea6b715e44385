use Rattle.std.proofs.Common.{◌≡◌, drop}
use Rattle.mt_strace.specs.Strings.{onto_bytes, bytes_from, unescaped_bytes}
use Rattle.mt_strace.proofs.string.unescaped_bytes.Given as goal

abbrev pub invariant-loop-byte : goal.invariant-loop-byte
invariant-loop-byte l = onto_bytes l.bytes.items (bytes_from l.escape (drop l.byte-index l.text)) ≡ unescaped_bytes l.text
