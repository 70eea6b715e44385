use Rattle.std.proofs.Common.{◌≡◌, ◌++◌, drop}
use Rattle.std.specs.List.{flat_map}
use Rattle.mt_propagate.specs.World.{world_view}
use Rattle.mt_what_if.specs.Told.{events_between}
use Rattle.mt_what_if.proofs.told.push_events_text.Given as goal

-- the objects appended, and those to come
abbrev pub invariant-spaces : goal.invariant-spaces
invariant-spaces l =
    l.text.items ++ flat_map (events_between (world_view l.before) (world_view l.after)) (drop l.space-index l.spaces)
    ≡ l.initial.text.items ++ flat_map (events_between (world_view l.before) (world_view l.after)) l.spaces
