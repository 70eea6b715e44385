-- What changes in a namespace, from one table to another one.
-- A word with no source is this project's rule.
use Rattle.std.specs.Prelude.{ℕ, Bool, false, not, ◌&&◌, if◌then◌else◌, List, [], ◌∷◌, ◌++◌, count_by, codes}
use Rattle.std.specs.List.{flat_map}
use Rattle.std.specs.Option.{option_map_or}
use Rattle.mt_skel.specs.Keyed.{row_at, has}
use Rattle.mt_peers.specs.Peers.{Peer}
use Rattle.mt_info.specs.declared.row.Row.{Row}
use Rattle.mt_info.specs.SameRow.{row_eq}
use Rattle.mt_info.specs.Table.{row_id}
use Rattle.mt_render.specs.Wording.{shown_line}
use Rattle.mt_what_if.specs.Abridged.{ToldChange, abridged_from}
use Rattle.mt_what_if.specs.Along.{goes_along, is_along, along_text}
use Rattle.mt_what_if.specs.KnownSpaces.{TitledSpace, is_unnamed}
use Rattle.mt_what_if.specs.Lines.{line_of_left, line_of_new, line_of_changed}
use Rattle.mt_what_if.specs.Unsure.{unsure_lines}
use Rattle.mt_what_if.specs.Words.{changes}
use Rattle.mt_what_if.specs.declared.numbers.Numbers.{Numbers}

-- a mount of the first table that the second one has not, and the other way round
abbrev pub text_if_gone : Numbers → List Row → Row → List ℕ
text_if_gone nb after r = if has row_id r.id after then [] else line_of_left nb r

abbrev pub text_if_new : Numbers → List Row → Row → List ℕ
text_if_new nb before s = if has row_id s.id before then [] else line_of_new nb s

-- a mount of both that is not as it was; what changed is the same of mounts with new groups, whatever their numbers
abbrev pub told_change : Numbers → Row → Row → ToldChange
told_change nb r s = record { change = changes (record nb { counted = false }) r s; line = line_of_changed nb r s }

abbrev pub has_changed : List Row → List Row → Row → Row → Bool
has_changed before after r s = not (row_eq r s) && not (goes_along before after r s)

abbrev pub change_if : Numbers → List Row → List Row → Row → Row → List ToldChange
change_if nb before after r s = if has_changed before after r s then told_change nb r s ∷ [] else []

unfoldable pub change_in : Numbers → List Row → List Row → Row → List ToldChange
change_in nb before after s = option_map_or (λ r. change_if nb before after r s) (row_at row_id s.id before) []

abbrev pub row_changes : Numbers → List Row → List Row → List ToldChange
row_changes nb before after = flat_map (change_in nb before after) after

abbrev pub abridged_changes : Numbers → List Row → List Row → List ℕ
abridged_changes nb before after = abridged_from (row_changes nb before after) [] (row_changes nb before after)

-- the mounts that left, those that are not as they were, how many only moved along, and those that are new
unfoldable pub space_lines : Numbers → List Row → List Row → List ℕ
space_lines nb before after =
    flat_map (text_if_gone nb after) before ++ abridged_changes nb before after ++ along_text (count_by (is_along before after) after)
    ++ flat_map (text_if_new nb before) after

-- under the name of the namespace, if there is a line
abbrev pub space_heading : List ℕ → List ℕ
space_heading name = shown_line (codes "  " ++ name ++ codes ":")

abbrev pub with_heading : List ℕ → List ℕ → List ℕ
with_heading name [] = []
with_heading name (b ∷ lines) = space_heading name ++ b ∷ lines

-- and last what these tables do not tell; a line may be of a namespace that one names, or makes
abbrev pub all_lines : Numbers → List Peer → TitledSpace → List Row → List Row → List ℕ
all_lines nb es s before after = space_lines nb before after ++ unsure_lines nb es (not (is_unnamed s)) before after

abbrev pub space_changes : Numbers → List Peer → TitledSpace → List Row → List Row → List ℕ
space_changes nb es s before after = with_heading s.name (all_lines nb es s before after)
