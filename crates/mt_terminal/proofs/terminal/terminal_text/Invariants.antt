use Rattle.std.proofs.Common.{◌≡◌, ◌++◌, drop}
use Rattle.mt_terminal.specs.Terminal.{piece_text, text_by}
use Rattle.mt_terminal.proofs.terminal.terminal_text.Given as goal

-- what is written, and what is to come
abbrev pub invariant-bytes : goal.invariant-bytes
invariant-bytes l = l.text.items ++ text_by piece_text (drop l._byte-index l.bytes) l.rest ≡ text_by piece_text l.bytes l.bytes
