-- What a mirror holds, and what a post does to it.
-- A word with no source is this project's rule.
use Rattle.std.specs.Prelude.{ℕ, ◌+◌, Bool, true, ◌&&◌, ◌==◌, List, [], ◌∷◌, cond, refl}
use Rattle.std.specs.List.{list_any, fold}
use Rattle.std.specs.Coded.{Coded, code_by, coded×, coded_ℕ, coded_list}
use Rattle.mt_info.specs.declared.row.Row.{Row}
use Rattle.mt_events.specs.Posts.{PostView}
use Rattle.mt_events.specs.Difference.{with_delta, delta_of}

-- a mirror is of a namespace, and holds the number of its last post and its table
pub record MirrorView : Type 0 where
  pub space : ℕ
  pub number : ℕ
  pub rows : List Row

-- a mirror is stored as the tuple of its fields
abbrev pub mirror_code : Coded Row → Coded MirrorView
mirror_code code =
    code_by (ℕ × (ℕ × List Row)) (coded× coded_ℕ (coded× coded_ℕ (coded_list code))) (λ m. (m.space, (m.number, m.rows))) (λ t. record { space = t.0; number = t.1.0; rows = t.1.1 }) (λ _. refl)

-- a post is the next one of a mirror: of its namespace, and with the number after its own
abbrev pub is_next : MirrorView → PostView → Bool
is_next m p = (p.space == m.space) && (p.number == m.number + 1)

-- a row, if it is of none of these mounts
abbrev pub kept_of : List ℕ → Row → List Row
kept_of gone r = cond (list_any (λ i. i == r.id) gone) [] (r ∷ [])

-- a mirror with what a post says
abbrev pub mirrored : MirrorView → PostView → MirrorView
mirrored m p = record { space = m.space; number = p.number; rows = with_delta (delta_of p) m.rows }

-- a mirror with what posts say, one after another
abbrev pub mirrored_by : MirrorView → List PostView → MirrorView
mirrored_by m ps = fold mirrored m ps

-- each of the posts is the next one of the mirror that the posts before it have made
abbrev pub are_next : MirrorView → List PostView → Bool
are_next m [] = true
are_next m (p ∷ ps) = is_next m p && are_next (mirrored m p) ps
