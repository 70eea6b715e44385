-- The mounts of a graph, each at its place, and lists of those that are in the same peer group. No public clause cites this module.
-- A word with no source is this project's rule.
use Rattle.std.specs.Prelude.{◌≡◌, ℕ, ◌+◌, List, [], ◌∷◌, Option}
use Rattle.mt_lists.specs.Lists.{ListRow}
use Rattle.mt_lists.specs.Numbered.{rows_by}
use Rattle.mt_render.specs.Groups.{NodeView}

-- a mount and its place
pub record PlacedView : Type 0 where
  pub at : ℕ
  pub node : NodeView

-- mounts and their places, from a place on
abbrev pub at_places : ℕ → List NodeView → List PlacedView
at_places at [] = []
at_places at (n ∷ ns) = record { at = at; node = n } ∷ at_places (at + 1) ns

abbrev pub own_place : PlacedView → ℕ
own_place p = p.at

-- the peer group of a mount
abbrev pub own_group : PlacedView → Option ℕ
own_group p = p.node.row.shared

-- the members of each peer group are listed by their places
pub record IsGrouped (nodes : List NodeView) (members : List ListRow) : Type 0 where
  pub listed : members ≡ rows_by own_place own_group (at_places 0 nodes)
