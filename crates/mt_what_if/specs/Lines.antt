-- The line of a mount that left, is new or is not as it was.
-- A word with no source is this project's rule.
use Rattle.std.specs.Prelude.{ℕ, List, ◌++◌, codes}
use Rattle.std.specs.List.{join_with_byte}
use Rattle.mt_skel.specs.Escapes.{escaped}
use Rattle.mt_info.specs.declared.row.Row.{Row}
use Rattle.mt_info.specs.RowLine.{path_text, option_words}
use Rattle.mt_render.specs.Wording.{shown_line, standing}
use Rattle.mt_what_if.specs.Numbers.{mount_word}
use Rattle.mt_what_if.specs.Words.{propagation_words, changes}
use Rattle.mt_what_if.specs.declared.numbers.Numbers.{Numbers}

-- the number of a mount and its mount point
abbrev pub mount_and_point : Numbers → Row → List ℕ
mount_and_point nb r = mount_word nb r.id ++ codes " " ++ path_text r.point

-- what a new mount is: its type, its options, and how it propagates
abbrev pub new_mount_words : Numbers → Row → List ℕ
new_mount_words nb r = codes " " ++ escaped r.kind ++ codes " " ++ join_with_byte 44 (option_words r.attrs) ++ codes " " ++ propagation_words nb r

-- a mount that left, one that is new, and one that is not as it was
unfoldable pub line_of_left : Numbers → Row → List ℕ
line_of_left nb r = shown_line (codes "    - " ++ mount_and_point nb r ++ codes " " ++ escaped r.kind)

unfoldable pub line_of_new : Numbers → Row → List ℕ
line_of_new nb r = shown_line (codes "    + " ++ mount_and_point nb r ++ new_mount_words nb r)

unfoldable pub line_of_changed : Numbers → Row → Row → List ℕ
line_of_changed nb r s = shown_line (codes "    ~ " ++ mount_word nb s.id ++ codes " " ++ standing r s ++ changes nb r s)
