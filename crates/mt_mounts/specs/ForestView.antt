-- What a contract sees of a `Forest`, and the changes of it.
-- A word with no source is this project's rule.
use Rattle.std.specs.Prelude.{ℕ, cond, ◌==◌, List, map, Some, refl}
use Rattle.std.specs.Coded.{Coded, code_by, coded×, coded_ℕ, coded_list}
use Rattle.mt_skel.specs.Keyed.{without}
use Rattle.mt_mounts.specs.declared.mount.Place.{Place}
use Rattle.mt_mounts.specs.declared.mount.Attrs.{Attrs}
use Rattle.mt_mounts.specs.declared.mount.Mount.{Mount}

-- A forest is its mounts by rising ID, those that it had when changes began to be noted, and how many changes need no
-- more memory.
pub record ForestView : Type 0 where
  pub mounts : List Mount
  pub since : List Mount
  pub room : ℕ

-- A forest is stored as its fields.
abbrev pub forest_code : Coded Mount → Coded ForestView
forest_code code =
    code_by (List Mount × (List Mount × ℕ)) (coded× (coded_list code) (coded× (coded_list code) coded_ℕ)) (λ f. (f.mounts, (f.since, f.room)))
    (λ p. record { mounts = p.0; since = p.1.0; room = p.1.1 }) (λ _. refl)

-- A change of attributes is one of a single mount, and the other mounts of its filesystem keep theirs (this project's rule, after the per-mount flags of mount(2)).
abbrev pub with_attrs : ℕ → Attrs → List Mount → List Mount
with_attrs i a ms = map (λ (m : Mount). record m { attrs = cond (m.id == i) a m.attrs }) ms

-- A move mounts a mount at another place, and what is mounted on it stays on it (this project's rule, after MS_MOVE of mount(2)).
abbrev pub with_place : ℕ → Place → List Mount → List Mount
with_place i p ms = map (λ (m : Mount). record m { place = cond (m.id == i) (Some p) m.place }) ms

-- An unmount takes away one mount, here even if others are mounted on it.
abbrev pub without_id : ℕ → List Mount → List Mount
without_id i ms = without (λ (m : Mount). m.id == i) ms
