-- What is added to told lines: the time of a line, and a refusal as JSON.
-- A word with no source is this project's rule.
use Rattle.std.specs.Prelude.{ℕ, ◌==◌, cond, List, [], ◌∷◌, ◌++◌, codes}
use Rattle.serde_json.specs.Data.{object, no_members, put}
use Rattle.mt_render.specs.Members.{text_data}
use Rattle.mt_render.specs.Objects.{value_line}
use Rattle.mt_render.specs.declared.telling.Telling.{Telling}
use Rattle.mt_render.specs.declared.telling.Telling.TheVariants.{Words, Json}

-- a line behind the brace that it begins with, if it does
abbrev pub behind_brace : List ℕ → List ℕ
behind_brace [] = []
behind_brace (b ∷ bs) = cond (b == 123) bs (b ∷ bs)

-- a told line with a time: in front of words, and as the first member of an object
abbrev pub timed_line : Telling → List ℕ → List ℕ → List ℕ
timed_line Words time line = time ++ (codes " " ++ line)
timed_line Json time line = codes "{\"time\":\"" ++ (time ++ (codes "\"," ++ behind_brace line))

-- a refusal as an object
unfoldable pub refusal_line : List ℕ → List ℕ
refusal_line name = value_line (object (put (codes "refusal") (text_data name) no_members))
