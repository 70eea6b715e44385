-- Names of namespaces.
-- A word with no source is this project's rule.
use Rattle.std.specs.Prelude.{ℕ, ◌==◌, cond, List, [], ◌∷◌, ◌++◌, codes}
use Rattle.mt_skel.specs.Escapes.{escaped}
use Rattle.mt_render.specs.declared.named.SpaceName.{SpaceName}

-- the first name of a namespace among these, or an empty one
abbrev pub name_in : List SpaceName → ℕ → List ℕ
name_in [] n = []
name_in (x ∷ xs) n = cond (x.space == n) x.name.now (name_in xs n)

-- the name of a namespace behind its number, if it has one
abbrev pub name_words : List ℕ → List ℕ
name_words [] = []
name_words (b ∷ bs) = codes " (" ++ escaped (b ∷ bs) ++ codes ")"
