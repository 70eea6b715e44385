use Rattle.std.proofs.Common.{◌≡◌, ◌++◌, drop}
use Rattle.std.specs.Prelude.{fold}
use Rattle.mt_forms.specs.Splitting.{start, next_byte, emitted_from}
use Rattle.mt_forms.proofs.split.split_line.Given as goal

abbrev pub invariant-loop-byte : goal.invariant-loop-byte
invariant-loop-byte l = record {
  state : fold next_byte l.before (drop l.byte-index l.line) ≡ fold next_byte start l.line;
  told : l.text.items ++ emitted_from l.before (drop l.byte-index l.line) ≡ emitted_from start l.line;
}
