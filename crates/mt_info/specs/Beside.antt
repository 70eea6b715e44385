-- Which group above its master a row may tell, and that the one of a mount is such a group. A word
-- with no source is this project's rule.
use Rattle.std.specs.Prelude.{◌≡◌, ℕ, Bool, true, false, not, cond, ◌==◌, Option, Some, None, IsTrue, refl}
use Rattle.std.specs.Option.{option_and_then}
use Rattle.mt_propagate.specs.World.{WorldView, state_of, space_of}
use Rattle.mt_propagate.specs.FromGroup.{from_group, nearest_seen}

-- the group of the tag `propagate_from` stands only beside a master, and is another group (proc_pid_mountinfo(5))
abbrev pub fits_master : Option ℕ → Option ℕ → Bool
fits_master None m = true
fits_master (Some g) None = false
fits_master (Some g) (Some m) = not (g == m)

-- a group that is found from the master upwards and is not the master fits it
fits : (found : ℕ → Option ℕ) (o : Option ℕ) → IsTrue (fits_master (option_and_then (λ m. option_and_then (λ g. cond (g == m) None (Some g)) (found m)) o) o)
fits found None = refl
fits found (Some m) = go (found m)
  where
    one : (g : ℕ) (b : Bool) → (g == m) ≡ b → IsTrue (fits_master (cond b None (Some g)) (Some m))
    one g true e = refl
    one g false e = λ i. not (e i)

    go : (o : Option ℕ) → IsTrue (fits_master (option_and_then (λ g. cond (g == m) None (Some g)) o) (Some m))
    go None = refl
    go (Some g) = one g (g == m) refl

-- so the group of the tag of a mount fits the mount's master
pub from_group_fits : (w : WorldView) (i : ℕ) → IsTrue (fits_master (from_group w i) (state_of w i).master)
from_group_fits w i = fits (nearest_seen w (space_of w i)) (state_of w i).master
