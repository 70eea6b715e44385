use Rattle.std.proofs.Common.{◌≡◌, ◌++◌, drop}
use Rattle.std.specs.List.{flat_map}
use Rattle.mt_render.specs.Wording.{left_text}
use Rattle.mt_render.proofs.wording.push_left.Given as goal

-- the lines appended, and those to come
abbrev pub invariant-gone : goal.invariant-gone
invariant-gone l = l.text.items ++ flat_map (left_text l.rows l.space.name.now l.space.number) (drop l.id-index l.gone) ≡ l.initial.text.items ++ flat_map (left_text l.rows l.space.name.now l.space.number) l.gone
