-- Rows of mounts that have other attributes or another state differ.
use Rattle.std.proofs.Common.{◌≡◌, ◌∙◌, Bool, true, false, not, Option, Some, sym, ap}
use Rattle.std.proofs.lemmas.Bool.{true≢false, not-true, false_from_ne_true}
use Rattle.std.proofs.lemmas.Option.{same_Some}
use Rattle.mt_skel.proofs.MiddleLaws.{and-true}
use Rattle.mt_mounts.specs.declared.mount.Mount.{Mount}
use Rattle.mt_propagate.specs.World.{WorldView}
use Rattle.mt_info.specs.declared.row.Row.{Row}
use Rattle.mt_info.specs.Table.{row_of}
use Rattle.mt_info.specs.SameRow.{row_eq, is_alike}
use Rattle.mt_info.proofs.SameRowLaws.{row_eq-sound, attrs_eq-decides, number_eq-decides, bool_eq-decides}

-- mounts with equal rows have the same attributes and the same state
alike-rows : (v w : WorldView) (m n : Mount) → row_eq (row_of v m) (row_of w n) ≡ true → is_alike v w m n ≡ true
alike-rows v w m n e =
    let same = row_eq-sound (row_of v m) (row_of w n) e in
    and-true _ _ ((attrs_eq-decides _ _).1 (ap (λ (r : Row). r.attrs) same))
    (and-true _ _ (and-true _ _ ((number_eq-decides _ _).1 (ap (λ (r : Row). r.shared) same)) ((number_eq-decides _ _).1 (ap (λ (r : Row). r.master) same)))
    ((bool_eq-decides _ _).1 (ap (λ (r : Row). r.unbindable) same)))

-- so where mounts that were found in two worlds were seen to have others, their rows differ
pub other-found : (v w : WorldView) (p q : Option Mount) (old new m n : Mount) (b : Bool) → p ≡ Some old → q ≡ Some new → b ≡ is_alike v w old new → not b ≡ true → p ≡ Some m → q ≡ Some n
    → row_eq (row_of v m) (row_of w n) ≡ false
other-found v w p q old new m n b was is e told at to =
    let first : old ≡ m = same_Some old m (sym was ∙ at) in
    let second : new ≡ n = same_Some new n (sym is ∙ to) in
    let other : is_alike v w m n ≡ false = (λ i. is_alike v w (sym first i) (sym second i)) ∙ sym e ∙ not-true b told in
    false_from_ne_true _ (λ alike. true≢false (sym (alike-rows v w m n alike) ∙ other))
