-- What of a mount is not as it was, in words (the optional fields: proc_pid_mountinfo(5), field 7).
-- A word with no source is this project's rule.
use Rattle.std.specs.Prelude.{ℕ, ◌==◌, if◌then◌else◌, List, [], ◌∷◌, ◌++◌, Option, codes}
use Rattle.std.specs.List.{flat_map}
use Rattle.std.specs.Option.{option_map_or}
use Rattle.mt_info.specs.declared.row.Row.{Row}
use Rattle.mt_render.specs.Wording.{field_name, field_words, fields_changed}
use Rattle.mt_render.specs.declared.field.Field.{Field}
use Rattle.mt_render.specs.declared.field.Field.TheVariants.{Parent, Propagation}
use Rattle.mt_what_if.specs.Numbers.{mount_word, group_word}
use Rattle.mt_what_if.specs.declared.numbers.Numbers.{Numbers}

-- an optional field after a comma, if there is one
abbrev pub tag_told : Numbers → List ℕ → Option ℕ → List ℕ
tag_told nb name group = option_map_or (λ g. codes "," ++ name ++ group_word nb g) group []

-- those of a row, in the order of the kernel's listing
abbrev pub tags_told : Numbers → Row → List ℕ
tags_told nb r =
    tag_told nb (codes "shared:") r.shared ++ tag_told nb (codes "master:") r.master ++ tag_told nb (codes "propagate_from:") r.via
    ++ (if r.unbindable then codes ",unbindable" else [])

-- how a mount propagates: its optional fields, with commas between them, or that it is private
abbrev pub without_comma : List ℕ → List ℕ
without_comma [] = codes "private"
without_comma (comma ∷ words) = words

abbrev pub propagation_words : Numbers → Row → List ℕ
propagation_words nb r = without_comma (tags_told nb r)

-- the mount that a mount stands on; the root mount of a namespace stands on none
abbrev pub parent_word : Numbers → Row → List ℕ
parent_word nb r = if r.parent == r.id then codes "none" else mount_word nb r.parent

-- what a field says
abbrev pub value : Numbers → Row → Field → List ℕ
value nb r Parent = parent_word nb r
value nb r Propagation = propagation_words nb r
value nb r f = field_words r f

-- what a field was, and what it is
abbrev pub field_change : Numbers → Row → Row → Field → List ℕ
field_change nb r s f = field_name f ++ value nb r f ++ codes " -> " ++ value nb s f

-- each of these fields after a comma
abbrev pub further : Numbers → Row → Row → List Field → List ℕ
further nb r s fs = flat_map (λ f. codes ", " ++ field_change nb r s f) fs

abbrev pub field_changes : Numbers → Row → Row → List Field → List ℕ
field_changes nb r s [] = codes "as before"
field_changes nb r s (f ∷ fs) = field_change nb r s f ++ further nb r s fs

-- what of the second row is not as in the first
unfoldable pub changes : Numbers → Row → Row → List ℕ
changes nb r s = field_changes nb r s (fields_changed r s)
