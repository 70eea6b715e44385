-- What tables do not tell of a change: whether a peer group has mounts in namespaces that were not read.
-- A word with no source is this project's rule.
use Rattle.std.specs.Prelude.{ℕ, Bool, nat_le, ◌&&◌, if◌then◌else◌, List, [], ◌++◌, is_none, codes}
use Rattle.std.specs.List.{flat_map}
use Rattle.std.specs.Option.{option_map_or}
use Rattle.mt_skel.specs.Keyed.{row_at}
use Rattle.mt_lists.specs.Lists.{first}
use Rattle.mt_peers.specs.Peers.{Peer, members}
use Rattle.mt_info.specs.declared.row.Row.{Row}
use Rattle.mt_info.specs.Table.{row_id}
use Rattle.mt_render.specs.Wording.{shown_line}
use Rattle.mt_what_if.specs.Lines.{mount_and_point}
use Rattle.mt_what_if.specs.Numbers.{group_word}
use Rattle.mt_what_if.specs.declared.numbers.Numbers.{Numbers}

-- a peer group of the tables that no mount is in any more, as far as they tell
abbrev pub is_left : Numbers → List Peer → ℕ → Bool
is_left nb es g = nat_le g nb.groups && is_none (first (members es g))

-- then a mount that has it for a master is told to get another one or none; but it keeps it, if a mount that was not read is in it
-- (`sharedsubtree`, mount states)
unfoldable pub if_read : Numbers → ℕ → List ℕ
if_read nb g = group_word nb g ++ codes ", if group " ++ group_word nb g ++ codes " has a mount in a namespace that was not read"

-- unless it was made private, which lines of its own namespace alone may do
abbrev pub if_unset : Bool → List ℕ
if_unset named = if named then codes ", and no line made it private" else []

unfoldable pub kept_if : Numbers → Bool → ℕ → List ℕ
kept_if nb named g = if_read nb g ++ if_unset named

unfoldable pub unsure_line : Numbers → Bool → Row → ℕ → List ℕ
unsure_line nb named s g = shown_line (codes "    ? " ++ mount_and_point nb s ++ codes " keeps master:" ++ kept_if nb named g)

abbrev pub line_if_left : Numbers → List Peer → Bool → Row → ℕ → List ℕ
line_if_left nb es named s g = if is_left nb es g then unsure_line nb named s g else []

abbrev pub line_of_master : Numbers → List Peer → Bool → Row → Row → List ℕ
line_of_master nb es named s r = option_map_or (line_if_left nb es named s) r.master []

-- the mounts of a table of which it is told, and those of them that were there before
unfoldable pub unsure_of : Numbers → List Peer → Bool → List Row → Row → List ℕ
unsure_of nb es named before s = option_map_or (line_of_master nb es named s) (row_at row_id s.id before) []

abbrev pub unsure_lines : Numbers → List Peer → Bool → List Row → List Row → List ℕ
unsure_lines nb es named before after = flat_map (unsure_of nb es named before) after
