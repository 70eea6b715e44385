-- What becomes of each mount where one is made at a place.
-- A word with no source is this project's rule.
use Rattle.std.specs.Prelude.{ℕ, Bool, true, false, cond, ◌==◌, List, Option}
use Rattle.std.specs.Option.{option_map_or}
use Rattle.mt_reach.specs.declared.missing.Gets.{Gets}
use Rattle.mt_reach.specs.declared.missing.Gets.TheVariants.{Yes, No, Unknown}
use Rattle.mt_reach.specs.declared.row.SeenDirectory.{SeenDirectory}
use Rattle.mt_reach.specs.declared.row.SeenRow.{SeenRow}
use Rattle.mt_reach.specs.Rows.{shows}
use Rattle.mt_reach.specs.Missing.{gets_as_told}
use Rattle.mt_reach.specs.Reasons.{gets_at}
use Rattle.mt_questions.specs.declared.fate.Fate.{Fate}
use Rattle.mt_questions.specs.declared.fate.Fate.TheVariants.{Stands, Comes, MayCome, Stays, Passes, Apart}

-- a mount gets what happens in a group, or in none
abbrev pub gets_from_group : List SeenRow → Option ℕ → SeenRow → Gets
gets_from_group rows o r = option_map_or (λ g. gets_as_told rows g r) o No

-- what becomes of a mount that shows the directory
abbrev pub fate_as : Gets → Fate
fate_as Yes = Comes
fate_as Unknown = MayCome
fate_as No = Stays

-- what becomes of the mount r where one is made in the directory d of the mount b (`sharedsubtree`, bind semantics)
abbrev pub fate_of : List SeenRow → SeenRow → SeenDirectory → SeenRow → Fate
fate_of rows b d r =
    cond (b.id == r.id) Stands (cond (shows r d) (fate_as (gets_from_group rows b.group r)) (cond (gets_at rows b r) Passes Apart))

-- whether two are one
abbrev pub fate_eq : Fate → Fate → Bool
fate_eq Stands Stands = true
fate_eq Comes Comes = true
fate_eq MayCome MayCome = true
fate_eq Stays Stays = true
fate_eq Passes Passes = true
fate_eq Apart Apart = true
fate_eq f g = false

-- the mount r has this fate
abbrev pub has_fate : List SeenRow → SeenRow → SeenDirectory → Fate → SeenRow → Bool
has_fate rows b d f r = fate_eq (fate_of rows b d r) f
