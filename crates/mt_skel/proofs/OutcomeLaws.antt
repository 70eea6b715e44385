-- The first refusal of a list, one condition at a time, and what a success tells.
use Rattle.std.proofs.Common.{◌≡◌, Bool, true, false, List, ◌∷◌, Option, None, Err, [], Some, Ok, arith}
use Rattle.std.specs.List.{AllByRecursion}
use Rattle.mt_skel.specs.declared.fault.Fault.{Fault}
use Rattle.mt_skel.specs.Outcome.{refuse_if, outcome}

pub passed : {A : Type 0} (b : Bool) (f : Fault) (fs : List (Option Fault)) (x : A) → b ≡ false → outcome (refuse_if b f ∷ fs) x ≡ outcome fs x
passed b f fs x e = grind arith

pub stopped : {A : Type 0} (b : Bool) (f : Fault) (fs : List (Option Fault)) (x : A) → b ≡ true → outcome (refuse_if b f ∷ fs) x ≡ Err f
stopped b f fs x e = grind arith

-- an accepted call gives its effect, and each refusal of its list is absent
pub accepted : {A : Type 0} (fs : List (Option Fault)) (a b : A) → outcome fs a ≡ Ok b → (a ≡ b) × AllByRecursion (λ o. o ≡ None) fs
accepted [] a b e = (cc, tt)
accepted (None ∷ fs) a b e = grind (arith, accepted fs a b e)
accepted (Some f ∷ fs) a b e = absurd (cc)

pub not_refused : (b : Bool) (f : Fault) → refuse_if b f ≡ None → b ≡ false
not_refused b f e = grind arith
