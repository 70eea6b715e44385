-- What a search of the mounts of a forest finds.
use Rattle.std.proofs.Common.{◌≡◌, ℕ, Bool, true, false, List, Some, None, sym, ◌∙◌}
use Rattle.std.specs.List.{find}
use Rattle.std.proofs.lemmas.Bool.{false_from_ne_true}
use Rattle.std.proofs.lemmas.Option.{none-some}
use Rattle.mt_skel.specs.Keyed.{row_at, rises}
use Rattle.mt_skel.proofs.ElementLaws.{row_in, in_row, find_in, in_found}
use Rattle.mt_mounts.specs.declared.mount.Mount.{Mount}
use Rattle.mt_mounts.specs.Forest.{id_of}

-- what a search finds is a row that passes, and where it finds nothing no row passes
pub find_row : (t : Mount → Bool) (ms : List Mount) (m : Mount) → rises id_of ms ≡ true → find t ms ≡ Some m → row_at id_of m.id ms ≡ Some m
find_row t ms m r e = in_row id_of ms m r (find_in t ms m e).0

pub find_passes : (t : Mount → Bool) (ms : List Mount) (m : Mount) → find t ms ≡ Some m → t m ≡ true
find_passes t ms m e = (find_in t ms m e).1

pub find_none : (t : Mount → Bool) (ms : List Mount) → find t ms ≡ None → (q : ℕ) (m : Mount) → row_at id_of q ms ≡ Some m → t m ≡ false
find_none t ms e q m g = false_from_ne_true (t m) (λ h. let f = in_found t ms m (row_in id_of q ms m g) h in none-some f.0 (sym e ∙ f.1))
