use Rattle.std.proofs.Common.{◌≡◌, ◌++◌, drop}
use Rattle.std.specs.List.{flat_map}
use Rattle.mt_render.specs.Events.{left_event}
use Rattle.mt_render.proofs.events.push_left_events.Given as goal

-- the lines appended, and those to come
abbrev pub invariant-gone : goal.invariant-gone
invariant-gone l = l.text.items ++ flat_map (left_event l.rows l.name l.space) (drop l.id-index l.gone) ≡ l.initial.text.items ++ flat_map (left_event l.rows l.name l.space) l.gone
