-- How a mount propagates, in a word (the optional fields: proc_pid_mountinfo(5); `private`: findmnt(8)).
-- A word with no source is this project's rule.
use Rattle.std.specs.Prelude.{ℕ, List, [], ◌∷◌, codes}
use Rattle.std.specs.List.{join_with_byte}
use Rattle.mt_info.specs.declared.row.Row.{Row}
use Rattle.mt_info.specs.RowLine.{tags}

-- how a mount propagates: its optional fields, joined by commas, or a word of its own where it has none
abbrev pub words_or_private : List (List ℕ) → List ℕ
words_or_private [] = codes "private"
words_or_private (w ∷ ws) = join_with_byte 44 (w ∷ ws)

abbrev pub propagation : Row → List ℕ
propagation r = words_or_private (tags r)
