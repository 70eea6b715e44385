-- The colours of the peer groups of a graph (the names: the X11 colour scheme of Graphviz).
-- A word with no source is this project's rule.
use Rattle.std.specs.Prelude.{ℕ, nat_eq, nat_lt, cond, List, [], ◌∷◌, ◌++◌, slice_index_or, codes, decimal}
use Rattle.std.specs.List.{position_or_len}

-- so many groups have a colour of their own
abbrev pub own_colours : ℕ
own_colours = 24

unfoldable pub colours : List (List ℕ)
colours =
    codes "blue3" ∷ codes "green4" ∷ codes "darkorange2" ∷ codes "purple3" ∷ codes "turquoise4" ∷ codes "deeppink2" ∷ codes "goldenrod3" ∷ codes "red3" ∷ codes "dodgerblue2" ∷ codes "saddlebrown"
    ∷ codes "springgreen3" ∷ codes "magenta3" ∷ codes "olivedrab" ∷ codes "tomato" ∷ codes "navy" ∷ codes "maroon" ∷ codes "cadetblue4" ∷ codes "orchid4" ∷ codes "chocolate3" ∷ codes "darkslategray"
    ∷ codes "mediumpurple1" ∷ codes "palevioletred3" ∷ codes "khaki4" ∷ codes "skyblue3" ∷ []

-- the colour of a peer group among these groups: the first ones have the colours in their order
abbrev pub colour : List ℕ → ℕ → List ℕ
colour groups g = slice_index_or colours (position_or_len (nat_eq g) groups) (codes "gray50")

-- the colour of the edges of a group, and its number as their label where it has no colour of its own
abbrev pub mark : List ℕ → ℕ → List ℕ
mark groups g = colour groups g ++ cond (nat_lt (position_or_len (nat_eq g) groups) own_colours) [] (codes ", label=" ++ decimal g)
