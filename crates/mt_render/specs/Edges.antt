-- The names of mounts and the lines of edges in a graph (the form: the DOT language of Graphviz).
-- A word with no source is this project's rule.
use Rattle.std.specs.Prelude.{ℕ, List, ◌++◌, codes, decimal}

-- the name of a mount in a graph: its namespace and its ID
abbrev pub name : ℕ → ℕ → List ℕ
name space id = codes "\"" ++ (decimal space ++ (codes "." ++ (decimal id ++ codes "\"")))

-- the rest of the line of an edge, behind the name where it begins: the mount where it ends, its form and its colour
abbrev pub arrow : ℕ → ℕ → List ℕ → List ℕ → List ℕ
arrow space id form colour = codes " -> " ++ (name space id ++ (codes " [" ++ (form ++ (codes ", color=" ++ (colour ++ codes "];\n")))))
