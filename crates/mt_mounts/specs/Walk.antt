-- Paths through the mounts of a namespace.
-- A word with no source is this project's rule.
use Rattle.std.specs.Prelude.{ℕ, List, [], ◌∷◌, Option, Some, Result, Err}
use Rattle.std.specs.Option.{option_map_or, option_and_then, ok_or}
use Rattle.mt_skel.specs.declared.fault.Fault.{Fault}
use Rattle.mt_skel.specs.declared.fault.Fault.TheVariants.{NoNamespace, NoEntry}
use Rattle.mt_skel.specs.Skeleton.{Skeleton, child}
use Rattle.mt_mounts.specs.declared.mount.Place.{Place}
use Rattle.mt_mounts.specs.declared.mount.Mount.{Mount}
use Rattle.mt_mounts.specs.Forest.{root_place, root_mount, top}

-- Path lookup takes the directory of each name in turn, and crosses to the top of what is mounted there.
abbrev pub walk_from : Skeleton → List Mount → Place → List (List ℕ) → Option Place
walk_from s ms p [] = Some p
walk_from s ms p (c ∷ cs) = option_and_then (λ d. walk_from s ms (top ms (record { mount = p.mount; dir = d })) cs) (child s p.dir c)

-- A path is looked up from the root of its namespace's root mount, whatever is mounted over that.
abbrev pub walk : Skeleton → List Mount → ℕ → List (List ℕ) → Result Place Fault
walk s ms n path =
    option_map_or (λ m. ok_or (walk_from s ms (root_place m) path) NoEntry) (root_mount ms n) (Err NoNamespace)
