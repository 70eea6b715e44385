-- What a watcher finds when it begins, one namespace after the other.
-- A word with no source is this project's rule.
use Rattle.std.specs.Prelude.{ℕ, cond, ◌&&◌, List, [], ◌∷◌}
use Rattle.mt_propagate.specs.World.{is_space}
use Rattle.mt_events.specs.declared.opening.Scope.{Scope}
use Rattle.mt_events.specs.declared.opening.Part.{Part}
use Rattle.mt_events.specs.declared.opening.Opening.{Opening}
use Rattle.mt_events.specs.Following.{names_space}
use Rattle.mt_book.specs.declared.command.Command.{Command}
use Rattle.mt_book.specs.Step.{after}
use Rattle.mt_floor.specs.Watcher.{part_of}

-- what is found of a namespace that is there and followed
abbrev pub part_if : List Command → Scope → ℕ → List Part
part_if cs scope n = cond (is_space (after cs) n && names_space scope n) (part_of cs n ∷ []) []

-- what a watcher of this scope finds, if it finds these
abbrev pub opening_of_parts : Scope → List Part → Opening
opening_of_parts scope parts = record { scope = scope; parts = parts }
