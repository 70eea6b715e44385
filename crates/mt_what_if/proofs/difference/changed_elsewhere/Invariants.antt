use Rattle.std.proofs.Common.{◌≡◌, ◌++◌, drop}
use Rattle.std.specs.List.{filter}
use Rattle.mt_propagate.specs.World.{world_view}
use Rattle.mt_what_if.specs.Difference.{changes_elsewhere}
use Rattle.mt_what_if.proofs.difference.changed_elsewhere.Given as goal

-- those found, and those to come
abbrev pub invariant-spaces : goal.invariant-spaces
invariant-spaces l =
    l.changed.items ++ filter (changes_elsewhere (world_view l.before) (world_view l.after)) (drop l.space-index l.spaces)
    ≡ filter (changes_elsewhere (world_view l.before) (world_view l.after)) l.spaces
