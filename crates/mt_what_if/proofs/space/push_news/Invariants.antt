use Rattle.std.proofs.Common.{◌≡◌, ◌++◌, drop}
use Rattle.std.specs.List.{flat_map}
use Rattle.mt_what_if.specs.Spaces.{text_if_new}
use Rattle.mt_what_if.proofs.space.push_news.Given as goal

-- the lines appended, and those to come
abbrev pub invariant-rows : goal.invariant-rows
invariant-rows l =
    l.text.items ++ flat_map (text_if_new l.numbers l.before) (drop l.row-index l.after) ≡ l.initial.text.items ++ flat_map (text_if_new l.numbers l.before) l.after
