use Rattle.std.proofs.Common.{◌≡◌, drop}
use Rattle.std.specs.List.{list_any}
use Rattle.mt_questions.specs.Reach.{shows_in}
use Rattle.mt_questions.proofs.reach.is_shown_in.Given as goal

-- none of the rows passed does
abbrev pub invariant-rows : goal.invariant-rows
invariant-rows l = list_any (shows_in l.directory l.space) (drop l.row-index l.row-items) ≡ list_any (shows_in l.directory l.space) l.row-items
