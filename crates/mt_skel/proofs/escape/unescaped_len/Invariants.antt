use Rattle.std.proofs.Common.{◌≡◌, ◌+◌, ◌≤◌, length}
use Rattle.mt_skel.specs.Escapes.{unescaped}
use Rattle.mt_skel.proofs.EscapeLaws.{count_from}
use Rattle.mt_skel.proofs.escape.unescaped_len.Given as goal

abbrev pub invariant-loop-rest : goal.invariant-loop-rest
invariant-loop-rest l = record {
  counted : count_from l.length (unescaped l.rest) ≡ count_from 0 (unescaped l.text);
  room : l.length + length l.rest ≤ length l.text;
}

abbrev pub decreases-loop-rest : goal.decreases-loop-rest
decreases-loop-rest l = length l.rest
