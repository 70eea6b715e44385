use Rattle.std.proofs.Common.{◌≡◌, ◌++◌, drop}
use Rattle.mt_terminal.specs.Terminal.{quoted_piece, text_by}
use Rattle.mt_terminal.proofs.json.quoted_text.Given as goal

-- what is written, and what is to come
abbrev pub invariant-bytes : goal.invariant-bytes
invariant-bytes l = l.text.items ++ text_by quoted_piece (drop l._byte-index l.bytes) l.rest ≡ text_by quoted_piece l.bytes l.bytes
