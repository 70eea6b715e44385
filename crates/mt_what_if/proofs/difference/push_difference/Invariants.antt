use Rattle.std.proofs.Common.{◌≡◌, ◌++◌, drop}
use Rattle.std.specs.List.{flat_map}
use Rattle.mt_propagate.specs.World.{world_view}
use Rattle.mt_what_if.specs.Difference.{between_text}
use Rattle.mt_what_if.proofs.difference.push_difference.Given as goal

-- the changes appended, and those to come
abbrev pub invariant-spaces : goal.invariant-spaces
invariant-spaces l =
    l.text.items ++ flat_map (between_text l.numbers (world_view l.before) (world_view l.after)) (drop l.space-index l.spaces)
    ≡ l.initial.text.items ++ flat_map (between_text l.numbers (world_view l.before) (world_view l.after)) l.spaces
