use Rattle.std.proofs.Common.{◌≡◌, ◌++◌, drop}
use Rattle.std.specs.List.{flat_map}
use Rattle.mt_terminal.specs.Terminal.{hex_byte}
use Rattle.mt_terminal.proofs.terminal.push_hexes.Given as goal

-- the digits appended, and those to come
abbrev pub invariant-bytes : goal.invariant-bytes
invariant-bytes l = l.text.items ++ flat_map hex_byte (drop l.byte-index l.bytes) ≡ l.initial.text.items ++ flat_map hex_byte l.bytes
