-- How the bytes of labels and names lie. No public clause cites this module.
-- A word with no source is this project's rule.
use Rattle.std.specs.Prelude.{ℕ, List}
use Rattle.mt_skel.specs.declared.inline.Bytes.{Bytes}
use Rattle.mt_skel.specs.declared.inline.Bytes.TheVariants.{Short, Long}

-- the bytes, wherever they lie
abbrev pub bytes_of : Bytes → List ℕ
bytes_of (Short b) = b.items
bytes_of (Long b) = b.items
