-- What a call answers: the first refusal of a list whose condition holds, or else the effect.
-- A word with no source is this project's rule.
use Rattle.std.specs.Prelude.{Bool, cond, List, [], ◌∷◌, Option, Some, None, Result, Ok, Err}
use Rattle.std.specs.Option.{option_map_or}
use Rattle.mt_skel.specs.declared.fault.Fault.{Fault}

abbrev pub refuse_if : Bool → Fault → Option Fault
refuse_if b f = cond b (Some f) None

abbrev pub refusal_of : {A : Type 0} → Result A Fault → Option Fault
refusal_of (Ok _) = None
refusal_of (Err f) = Some f

abbrev pub first_fault : List (Option Fault) → Option Fault
first_fault [] = None
first_fault (None ∷ fs) = first_fault fs
first_fault (Some f ∷ fs) = Some f

abbrev pub outcome : {A : Type 0} → List (Option Fault) → A → Result A Fault
outcome fs a = option_map_or (λ f. Err f) (first_fault fs) (Ok a)
