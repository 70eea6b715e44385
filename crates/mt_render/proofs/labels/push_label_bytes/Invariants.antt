use Rattle.std.proofs.Common.{◌≡◌, ◌++◌, drop}
use Rattle.std.specs.List.{flat_map}
use Rattle.mt_render.specs.Labels.{label_byte}
use Rattle.mt_render.proofs.labels.push_label_bytes.Given as goal

-- what was appended, and what is to come
abbrev pub invariant-loop-byte : goal.invariant-loop-byte
invariant-loop-byte l = l.text.items ++ flat_map label_byte (drop l.byte-index l.bytes) ≡ l.initial.text.items ++ flat_map label_byte l.bytes
