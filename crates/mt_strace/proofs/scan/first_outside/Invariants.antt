use Rattle.std.proofs.Common.{◌≡◌, ◌≤◌, take, drop}
use Rattle.mt_strace.specs.Outside.{pieces_from, pieces_outside}
use Rattle.mt_strace.proofs.OutsideLaws.{onto_all}
use Rattle.mt_strace.proofs.scan.first_outside.Given as goal

abbrev pub invariant-loop-i : goal.invariant-loop-i
invariant-loop-i l = record {
  pieces : onto_all (take l.i l.text) (pieces_from l.separator l.scan (drop l.i l.text)) ≡ pieces_outside l.separator l.text;
  depth : l.scan.depth ≤ l.i;
}
