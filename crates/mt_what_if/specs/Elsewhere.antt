-- What changes in namespaces that no line names.
-- A word with no source is this project's rule.
use Rattle.std.specs.Prelude.{ℕ, ◌==◌, if◌then◌else◌, List, [], ◌∷◌, ◌++◌, length, codes, decimal}
use Rattle.std.specs.List.{flat_map}
use Rattle.mt_render.specs.Wording.{shown_line}
use Rattle.mt_what_if.specs.KnownSpaces.{TitledSpace}

abbrev pub counted_others : ℕ → List ℕ
counted_others n = decimal n ++ (if n == 1 then codes " other namespace" else codes " other namespaces")

-- each name after a comma
abbrev pub further_names : List TitledSpace → List ℕ
further_names spaces = flat_map (λ (s : TitledSpace). codes ", " ++ s.name) spaces

unfoldable pub unchanged_line : ℕ → List ℕ
unchanged_line others = codes "elsewhere: nothing changes in " ++ counted_others others

abbrev pub nothing_line : ℕ → List ℕ
nothing_line others = if others == 0 then codes "elsewhere: no other namespace was read" else unchanged_line others

abbrev pub change_word : ℕ → List ℕ
change_word count = if count == 1 then codes " changes: " else codes " change: "

-- how many of so many
unfoldable pub portion_words : ℕ → ℕ → List ℕ
portion_words others count = codes "elsewhere: " ++ (decimal count ++ (codes " of " ++ counted_others others))

abbrev pub counts_words : ℕ → ℕ → List ℕ
counts_words others count = portion_words others count ++ change_word count

abbrev pub other_changes_line : ℕ → ℕ → TitledSpace → List TitledSpace → List ℕ
other_changes_line others count first more = counts_words others count ++ first.name ++ further_names more

abbrev pub elsewhere_line : ℕ → List TitledSpace → List ℕ
elsewhere_line others [] = nothing_line others
elsewhere_line others (first ∷ more) = other_changes_line others (length (first ∷ more)) first more

-- which of so many namespaces change that no line names
unfoldable pub elsewhere_told : ℕ → List TitledSpace → List ℕ
elsewhere_told others changed = shown_line (elsewhere_line others changed)
