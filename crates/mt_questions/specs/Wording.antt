-- Words of answers: namespaces, paths, mounts.
-- A word with no source is this project's rule.
use Rattle.std.specs.Prelude.{ℕ, Bool, not, cond, ◌&&◌, List, [], ◌∷◌, ◌++◌, Option, is_none, codes, decimal}
use Rattle.std.specs.List.{flat_map}
use Rattle.std.specs.Option.{option_map_or}
use Rattle.std.specs.Str.{bytes_eq}
use Rattle.mt_skel.specs.Escapes.{escaped}
use Rattle.mt_terminal.specs.Terminal.{terminal_text}
use Rattle.mt_reach.specs.declared.row.Device.{Device}
use Rattle.mt_reach.specs.declared.row.SeenDirectory.{SeenDirectory}
use Rattle.mt_reach.specs.declared.row.SeenRow.{SeenRow}
use Rattle.mt_reach.specs.Rows.{seen_at}
use Rattle.mt_questions.specs.Tables.{SeenView, called_name}

-- what people call a namespace, as a terminal is given it
abbrev pub called : SeenView → ℕ → List ℕ
called t n = terminal_text (called_name t n)

-- its number, and in parentheses what people call it, unless that is the number
unfoldable pub numbered_space : SeenView → ℕ → List ℕ
numbered_space t n = decimal n ++ cond (bytes_eq (called_name t n) (decimal n)) [] (codes " (" ++ called t n ++ codes ")")

-- names, each behind a slash and with its escapes
abbrev pub slashed : List (List ℕ) → List ℕ
slashed names = flat_map (λ n. 47 ∷ escaped n) names

-- a path
abbrev pub path_words : List (List ℕ) → List ℕ
path_words [] = codes "/"
path_words (n ∷ ns) = slashed (n ∷ ns)

-- what is shown that is no directory of its filesystem: its text, and the names below it
abbrev pub unlinked_words : List (List ℕ) → List ℕ
unlinked_words [] = codes "/"
unlinked_words (n ∷ ns) = escaped n ++ slashed ns

unfoldable pub directory_words : SeenDirectory → List ℕ
directory_words d = cond d.unlinked (unlinked_words d.path) (path_words d.path)

-- a device (proc_pid_mountinfo(5), field 3)
unfoldable pub device_words : Device → List ℕ
device_words d = decimal d.major ++ codes ":" ++ decimal d.minor

-- a word with a number, if there is one
abbrev pub group_words : List ℕ → Option ℕ → List ℕ
group_words word o = option_map_or (λ g. word ++ decimal g) o []

-- a mount is private: it is in no group, has no master, and can be bound (mount_namespaces(7))
abbrev pub is_private : SeenRow → Bool
is_private r = is_none r.group && is_none r.master && not r.unbindable

-- the groups that a mount tells, each word behind a comma (the optional fields: proc_pid_mountinfo(5))
unfoldable pub groups_tags : SeenRow → List ℕ
groups_tags r = group_words (codes ", shared:") r.group ++ group_words (codes ", master:") r.master ++ group_words (codes ", propagate_from:") r.via

unfoldable pub unbindable_tag : SeenRow → List ℕ
unbindable_tag r = cond r.unbindable (codes ", unbindable") []

-- as findmnt(8) has it
unfoldable pub private_tag : SeenRow → List ℕ
private_tag r = cond (is_private r) (codes ", private") []

-- how a mount propagates
unfoldable pub tags_words : SeenRow → List ℕ
tags_words r = groups_tags r ++ unbindable_tag r ++ private_tag r

-- a mount: its ID, its mount point and what people call its namespace
unfoldable pub row_words : SeenView → SeenRow → List ℕ
row_words t r = decimal r.id ++ codes " " ++ path_words r.point ++ codes " in " ++ called t r.space

-- the mount with this ID
abbrev pub words_of_mount : SeenView → ℕ → List ℕ
words_of_mount t i = option_map_or (row_words t) (seen_at t.rows i) (decimal i)

-- the mount with this ID, and its mount point
abbrev pub at_words : SeenRow → List ℕ
at_words r = codes " at " ++ path_words r.point

unfoldable pub id_and_point : SeenView → ℕ → List ℕ
id_and_point t i = decimal i ++ option_map_or at_words (seen_at t.rows i) []
