use Rattle.std.proofs.Common.{◌≡◌, ◌++◌, drop}
use Rattle.std.specs.List.{flat_map}
use Rattle.mt_what_if.specs.Spaces.{change_in}
use Rattle.mt_what_if.proofs.space.row_changes.Given as goal

-- the changes found, and those to come
abbrev pub invariant-rows : goal.invariant-rows
invariant-rows l =
    l.told.items ++ flat_map (change_in l.numbers l.before l.after) (drop l.row-index l.after) ≡ flat_map (change_in l.numbers l.before l.after) l.after
