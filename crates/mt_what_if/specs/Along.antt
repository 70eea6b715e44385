-- Mounts that only move along with those that they stand on.
-- A word with no source is this project's rule.
use Rattle.std.specs.Prelude.{ℕ, Bool, true, false, ◌&&◌, ◌==◌, if◌then◌else◌, List, [], ◌∷◌, ◌++◌, length, drop, Option, Some, None, codes, decimal}
use Rattle.std.specs.Option.{option_map_or}
use Rattle.std.specs.Str.{bytes_eq}
use Rattle.mt_skel.specs.Keyed.{row_at}
use Rattle.mt_skel.specs.Names.{names_text}
use Rattle.mt_info.specs.declared.row.Row.{Row}
use Rattle.mt_info.specs.Table.{row_id}
use Rattle.mt_render.specs.Wording.{fields_changed}
use Rattle.mt_render.specs.declared.field.Field.{Field}
use Rattle.mt_render.specs.declared.field.Field.TheVariants.{Point}

-- of a mount only the mount point is not as it was
abbrev pub is_point : Field → Bool
is_point Point = true
is_point field = false

abbrev pub is_point_alone : List Field → Bool
is_point_alone [] = false
is_point_alone (field ∷ []) = is_point field
is_point_alone (field ∷ other ∷ fields) = false

-- the names from one mount point down to another one, each after a slash
abbrev pub below_text : List (List ℕ) → List (List ℕ) → List ℕ
below_text above point = drop (length (names_text above)) (names_text point)

-- a mount stands where it stood, as seen from the mount point of the one that it stands on
abbrev pub below_alike : Option Row → Option Row → Row → Row → Bool
below_alike None new r s = false
below_alike (Some old) None r s = false
below_alike (Some old) (Some new) r s = bytes_eq (below_text old.point r.point) (below_text new.point s.point)

abbrev pub stands_alike : List Row → List Row → Row → Row → Bool
stands_alike before after r s = below_alike (row_at row_id r.parent before) (row_at row_id s.parent after) r s

-- it moves along: where it is seen follows from where the other one is
abbrev pub goes_along : List Row → List Row → Row → Row → Bool
goes_along before after r s = is_point_alone (fields_changed r s) && stands_alike before after r s

-- a row of the second table is of a mount that moved along
unfoldable pub is_along : List Row → List Row → Row → Bool
is_along before after s = option_map_or (λ r. goes_along before after r s) (row_at row_id s.id before) false

-- how many moved along
abbrev pub along_words : ℕ → List ℕ
along_words n = if n == 1 then codes " mount below goes along\n" else codes " mounts below go along\n"

abbrev pub along_text : ℕ → List ℕ
along_text n = if n == 0 then [] else codes "    ~ " ++ decimal n ++ along_words n
