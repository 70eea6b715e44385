-- A table in the code, and the same one in specs/.
use Rattle.std.proofs.Common.{◌≡◌, Bool, List, [], ◌∷◌, Option, Some, cond, refl, ap}
use Rattle.std.specs.Prelude.{map}
use Rattle.mt_forms.specs.Lookup.{looked_up}

-- what is looked up among rows is looked up among what is told of them
pub told_looked_up : {A B C : Type 0} (fits : B → Bool) (says : B → C) (told : A → B) (rows : List A)
    → looked_up (λ (row : A). fits (told row)) (λ (row : A). says (told row)) rows ≡ looked_up fits says (map told rows)
told_looked_up fits says told [] = refl
told_looked_up {C = C} fits says told (row ∷ rows) =
    ap (λ x. cond {A = Option C} (fits (told row)) (Some (says (told row))) x) (told_looked_up fits says told rows)
