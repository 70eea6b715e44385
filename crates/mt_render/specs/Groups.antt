-- The edges of peer groups in a graph: rings of members, and arrows to slaves.
-- A word with no source is this project's rule.
use Rattle.std.specs.Prelude.{ℕ, Bool, false, ◌==◌, nat_le, cond, List, [], ◌∷◌, ◌++◌, map, length, Option, None, codes, decimal, refl}
use Rattle.std.specs.Coded.{Coded, code_by, coded×, coded_ℕ}
use Rattle.std.specs.List.{filter, filter_map, find, flat_map}
use Rattle.std.specs.Option.{option_map_or, option_or}
use Rattle.mt_skel.specs.Keyed.{put}
use Rattle.mt_info.specs.declared.row.Row.{Row}
use Rattle.mt_events.specs.Mirrors.{MirrorView}
use Rattle.mt_render.specs.Edges.{name, arrow}
use Rattle.mt_render.specs.Palettes.{mark}

-- a mount in a graph: its namespace and its row
pub record NodeView : Type 0 where
  pub space : ℕ
  pub row : Row

-- a mount in a graph is stored as the pair of its fields
abbrev pub node_code : Coded Row → Coded NodeView
node_code code = code_by (ℕ × Row) (coded× coded_ℕ code) (λ n. (n.space, n.row)) (λ t. record { space = t.0; row = t.1 }) (λ _. refl)

-- the mounts of all parts, in order of namespace and ID
abbrev pub part_nodes : MirrorView → List NodeView
part_nodes m = map (λ r. record { space = m.space; row = r }) m.rows

abbrev pub nodes : List MirrorView → List NodeView
nodes parts = flat_map part_nodes parts

-- its name
abbrev pub node_name : NodeView → List ℕ
node_name n = name n.space n.row.id

-- the name of a peer group of which no member is in sight
abbrev pub group_name : ℕ → List ℕ
group_name g = codes "\"group " ++ (decimal g ++ codes "\"")

-- a mount is in a peer group
abbrev pub is_member : ℕ → NodeView → Bool
is_member g n = option_map_or (λ k. k == g) n.row.shared false

-- numbers by their size, each once
abbrev pub ordered : List ℕ → List ℕ
ordered [] = []
ordered (n ∷ ns) = put (λ k. k) n (ordered ns)

-- the groups that have members or slaves among mounts, by rising number
abbrev pub named_groups : List NodeView → List ℕ
named_groups all = ordered (filter_map (λ n. n.row.shared) all ++ filter_map (λ n. n.row.master) all)

-- the member that follows in the ring of a group: the next of the later ones, and behind the last of three or more the first
abbrev pub closing : List NodeView → ℕ → Option NodeView
closing all g = cond (nat_le 3 (length (filter (is_member g) all))) (find (is_member g) all) None

abbrev pub next_in_ring : List NodeView → List NodeView → ℕ → Option NodeView
next_in_ring all later g = option_or (find (is_member g) later) (closing all g)

-- the edge from a mount to the member that follows it, before these later ones
abbrev pub peer_edge : List ℕ → NodeView → ℕ → NodeView → List ℕ
peer_edge groups n g m = node_name n ++ arrow m.space m.row.id (codes "dir=none, constraint=false, style=bold") (mark groups g)

abbrev pub ring_edge : List ℕ → List NodeView → List NodeView → NodeView → List ℕ
ring_edge groups all later n = option_map_or (λ g. option_map_or (peer_edge groups n g) (next_in_ring all later g) []) n.row.shared []

-- the rings of all peer groups
abbrev pub ring_edges : List ℕ → List NodeView → List NodeView → List ℕ
ring_edges groups all [] = []
ring_edges groups all (n ∷ later) = ring_edge groups all later n ++ ring_edges groups all later

-- where the edges to the slaves of a group begin: at the first member in sight, or at a box of the group's own
abbrev pub master_name : List NodeView → ℕ → List ℕ
master_name all g = option_map_or node_name (find (is_member g) all) (group_name g)

abbrev pub slave_edge : List ℕ → List NodeView → NodeView → List ℕ
slave_edge groups all n = option_map_or (λ g. master_name all g ++ arrow n.space n.row.id (codes "style=dashed") (mark groups g)) n.row.master []

-- the edges of groups
abbrev pub group_edges : List ℕ → List NodeView → List ℕ
group_edges groups all = ring_edges groups all all ++ flat_map (slave_edge groups all) all
