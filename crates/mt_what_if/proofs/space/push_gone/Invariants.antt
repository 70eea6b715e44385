use Rattle.std.proofs.Common.{◌≡◌, ◌++◌, drop}
use Rattle.std.specs.List.{flat_map}
use Rattle.mt_what_if.specs.Spaces.{text_if_gone}
use Rattle.mt_what_if.proofs.space.push_gone.Given as goal

-- the lines appended, and those to come
abbrev pub invariant-rows : goal.invariant-rows
invariant-rows l =
    l.text.items ++ flat_map (text_if_gone l.numbers l.after) (drop l.row-index l.before) ≡ l.initial.text.items ++ flat_map (text_if_gone l.numbers l.after) l.before
