use Rattle.std.proofs.Common.{◌≡◌, length}
use Rattle.mt_skel.specs.Escapes.{unescaped}
use Rattle.mt_skel.proofs.EscapeLaws.{before_all}
use Rattle.mt_skel.proofs.escape.unescape.Given as goal

abbrev pub invariant-loop-byte : goal.invariant-loop-byte
invariant-loop-byte l = before_all l.bytes.items (unescaped l.rest) ≡ unescaped l.text

abbrev pub decreases-loop-byte : goal.decreases-loop-byte
decreases-loop-byte l = length l.rest
