-- To which mounts comes what happens in a directory of a mount, by the rows alone.
-- A word with no source is this project's rule.
use Rattle.std.specs.Prelude.{ℕ, Bool, not, ◌&&◌, ◌==◌, List, [], map}
use Rattle.std.specs.List.{filter}
use Rattle.std.specs.Option.{option_map_or}
use Rattle.mt_propagate.specs.Receivers.{gets_from}
use Rattle.mt_reach.specs.declared.row.SeenDirectory.{SeenDirectory}
use Rattle.mt_reach.specs.declared.row.SeenRow.{SeenRow}
use Rattle.mt_reach.specs.Rows.{seen_id, shows, peer_in, peers_in, seen_group}

-- a mount gets what happens in the group g (`sharedsubtree`, mount states)
abbrev pub row_gets : List SeenRow → ℕ → SeenRow → Bool
row_gets rows g r = gets_from (peers_in rows) g (peer_in r)

-- a mount made in a directory of the mount i, which is in the group g, comes to this one: it is another, gets what happens
-- in the group, and shows the directory (`sharedsubtree`, bind semantics)
abbrev pub is_reached : List SeenRow → ℕ → SeenDirectory → ℕ → SeenRow → Bool
is_reached rows i d g r = not (i == r.id) && shows r d && row_gets rows g r

-- the mounts to which it comes, by rising ID; none where the mount i is in no group (`sharedsubtree`, bind semantics)
abbrev pub reached : List SeenRow → ℕ → SeenDirectory → List ℕ
reached rows i d = option_map_or (λ g. map seen_id (filter (is_reached rows i d g) rows)) (seen_group rows i) []
