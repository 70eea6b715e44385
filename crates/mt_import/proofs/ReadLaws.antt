-- Optional fields that are not known.
use Rattle.std.proofs.Common.{arith, ◌≡◌, ◌&&◌, ℕ, false, nat_eq, List, [], ◌∷◌, take, length, Some, codes, refl, ap, ◌∙◌}
use Rattle.std.proofs.lemmas.Bool.Decides.{nat_tests}
use Rattle.std.specs.Cmp.Lexicographic.{pointwise}
use Rattle.std.specs.List.{starts_with}
use Rattle.std.specs.Str.{bytes_eq}
use Rattle.mt_import.specs.declared.read.Fields.{Fields}
use Rattle.mt_import.specs.Reading.{with_field}

eq_turned : (x y : ℕ) → nat_eq x y ≡ nat_eq y x
eq_turned x y = grind (arith, nat_tests)

turned : (xs ys : List ℕ) → pointwise nat_eq xs ys ≡ pointwise nat_eq ys xs
turned [] [] = refl
turned [] (y ∷ ys) = refl
turned (x ∷ xs) [] = refl
turned (x ∷ xs) (y ∷ ys) = ap (λ b. b && pointwise nat_eq xs ys) (eq_turned x y) ∙ ap (λ b. nat_eq y x && b) (turned xs ys)

-- a text does not begin with a name where its first bytes are another one
begins_otherwise : (name text : List ℕ) → pointwise nat_eq (take (length name) text) name ≡ false → starts_with nat_eq text name ≡ false
begins_otherwise name text e = turned name (take (length name) text) ∙ e

with_none : (fields : Fields) (field : List ℕ) → bytes_eq field (codes "unbindable") ≡ false → starts_with nat_eq field (codes "shared:") ≡ false
    → starts_with nat_eq field (codes "master:") ≡ false → starts_with nat_eq field (codes "propagate_from:") ≡ false → Some fields ≡ with_field fields field
with_none fields field e shared master via = rw (e, shared, master, via) refl

-- a field with none of the names changes nothing
pub unknown_field : (fields : Fields) (field : List ℕ) → bytes_eq field (codes "unbindable") ≡ false
    → pointwise nat_eq (take 7 field) (codes "shared:") ≡ false → pointwise nat_eq (take 7 field) (codes "master:") ≡ false
    → pointwise nat_eq (take 15 field) (codes "propagate_from:") ≡ false → Some fields ≡ with_field fields field
unknown_field fields field e shared master via =
    with_none fields field e (begins_otherwise (codes "shared:") field shared) (begins_otherwise (codes "master:") field master)
    (begins_otherwise (codes "propagate_from:") field via)
