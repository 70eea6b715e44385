use Rattle.std.proofs.Common.{◌≡◌, ◌++◌, drop}
use Rattle.std.specs.List.{flat_map}
use Rattle.mt_render.specs.Events.{row_event}
use Rattle.mt_render.proofs.events.push_row_events.Given as goal

-- the lines appended, and those to come
abbrev pub invariant-news : goal.invariant-news
invariant-news l = l.text.items ++ flat_map (row_event l.rows l.name l.space) (drop l.row-index l.news) ≡ l.initial.text.items ++ flat_map (row_event l.rows l.name l.space) l.news
