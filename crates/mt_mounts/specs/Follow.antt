-- What a forest is while it is made equal to another one. A word with no source is this project's
-- rule.
use Rattle.std.specs.Prelude.{◌≡◌, ℕ, false, List, Option, Some}
use Rattle.std.specs.Option.{ForSome}
use Rattle.mt_skel.specs.Keyed.{among}
use Rattle.mt_mounts.specs.declared.mount.Attrs.{Attrs}
use Rattle.mt_mounts.specs.declared.mount.Mount.{Mount}

-- what is found under an ID that is not among these is what another look-up finds under it
abbrev pub IsPartOf : {A : Type 0} → List ℕ → (ℕ → Option A) → (ℕ → Option A) → Type 0
IsPartOf ids f g = (i : ℕ) → among ids i ≡ false → ForSome (f i) (λ x. g i ≡ Some x)

-- the same mount with these attributes
abbrev pub given_attrs : Attrs → Mount → Mount
given_attrs a m = record m { attrs = a }
