-- Tables and places as JSON, an object a line (RFC 8259; the form: findmnt(8) with `--json`).
-- A word with no source is this project's rule.
use Rattle.std.specs.Prelude.{ℕ, zero, suc, Bool, nat_lt, List, [], ◌∷◌, ◌++◌, map, length, codes}
use Rattle.std.specs.List.{filter}
use Rattle.serde_json.specs.Data.{Data, array, object, Members, no_members, put}
use Rattle.serde_json.specs.View.{items_of}
use Rattle.serde_json.specs.Written.{compact_text}
use Rattle.mt_info.specs.declared.row.Row.{Row}
use Rattle.mt_events.specs.Mirrors.{MirrorView}
use Rattle.mt_terminal.specs.Terminal.{quoted_text}
use Rattle.mt_render.specs.Forest.{BranchView, is_top, child_rows, tree, strays}
use Rattle.mt_render.specs.Members.{text_data, number_data, with_name, with_mount}
use Rattle.mt_render.specs.declared.named.SpaceName.{SpaceName}
use Rattle.mt_render.specs.Named.{name_in}

-- a value as a line of its own, with no character that a terminal obeys
abbrev pub value_line : Data → List ℕ
value_line d = quoted_text (compact_text d) ++ codes "\n"

-- a row, and the objects of its children where it has some
abbrev pub with_children : List Data → Members → Members
with_children [] ms = ms
with_children (d ∷ ds) ms = put (codes "children") (array (items_of (d ∷ ds))) ms

abbrev pub node_with : Row → List Data → Data
node_with r ds = object (with_children ds (with_mount r no_members))

abbrev pub flat_node : Row → Data
flat_node r = node_with r []

-- a row with all below it, so many generations at most
abbrev pub node : List Row → ℕ → Row → Data
node rows zero r = flat_node r
node rows (suc n) r = node_with r (map (λ c. node rows n c) (child_rows rows r))

-- how many generations stand within each other below a top row
abbrev pub most_generations : ℕ
most_generations = 100

-- a row that stands below more rows than that
abbrev pub is_deep : BranchView → Bool
is_deep b = nat_lt most_generations (length b.lasts)

-- each top row with so many generations below it, and behind them, without their children, the rows that stand deeper and those that are in no tree
abbrev pub tree_nodes : List Row → List Data
tree_nodes rows = map (node rows most_generations) (filter (is_top rows) rows) ++ (map (λ b. flat_node b.row) (filter is_deep (tree rows)) ++ map (λ b. flat_node b.row) (strays rows))

-- mounts of a namespace, which may have a name
abbrev pub listing : ℕ → List ℕ → List Data → Members
listing space name ds = put (codes "filesystems") (array (items_of ds)) (with_name name (put (codes "namespace") (number_data space) no_members))

-- all mounts of a namespace, by rising ID
unfoldable pub flat_line : List SpaceName → MirrorView → List ℕ
flat_line names m = value_line (object (listing m.space (name_in names m.space) (map flat_node m.rows)))

-- the same, each below its parent
unfoldable pub nested_line : List SpaceName → MirrorView → List ℕ
nested_line names m = value_line (object (listing m.space (name_in names m.space) (tree_nodes m.rows)))

-- where a path ends: a mount, and a directory of its filesystem
unfoldable pub place_line : ℕ → List ℕ → Row → List ℕ
place_line space directory r = value_line (object (put (codes "directory") (text_data directory) (listing space [] (flat_node r ∷ []))))
