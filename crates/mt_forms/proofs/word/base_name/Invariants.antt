use Rattle.std.proofs.Common.{◌≡◌, ℕ, List, length}
use Rattle.std.specs.Prelude.{fold}
use Rattle.mt_forms.proofs.word.base_name.Given as goal

abbrev last_of : List ℕ → List (List ℕ) → List ℕ
last_of first names = fold (λ last name. name) first names

abbrev pub invariant-names : goal.invariant-names
invariant-names l = last_of l.last l.names ≡ last_of l.initial.last l.initial.names

abbrev pub decreases-names : goal.decreases-names
decreases-names l = length l.names
