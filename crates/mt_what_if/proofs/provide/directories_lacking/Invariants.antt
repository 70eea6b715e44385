use Rattle.std.proofs.Common.{◌≡◌, [], take, drop}
use Rattle.mt_propagate.specs.World.{world_view}
use Rattle.mt_what_if.specs.Provided.{lacking_behind}
use Rattle.mt_what_if.proofs.provide.directories_lacking.Given as goal

-- the names passed lead somewhere
abbrev pub invariant-names : goal.invariant-names
invariant-names l =
    lacking_behind l.known (world_view l.world) l.space (take l.before l.path) (drop l.before l.path) ≡ lacking_behind l.known (world_view l.world) l.space [] l.path
