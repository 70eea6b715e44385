-- Two look-ups that differ in the IDs of a list, at its end.
use Rattle.std.proofs.Common.{◌≡◌, ℕ, ◌≤◌, List, drop, length, Option, ap}
use Rattle.std.proofs.lemmas.List.{drop_all}
use Rattle.mt_skel.specs.Keyed.{among}
use Rattle.mt_lists.specs.Log.{AreAlikeBut}

pub alike_end : {A : Type 0} (ids : List ℕ) (f h : ℕ → Option A) (k : ℕ) → length ids ≤ k → AreAlikeBut (drop k ids) f h → (i : ℕ) → f i ≡ h i
alike_end ids f h k l a i = a i (ap (λ js. among js i) (drop_all k ids l))
