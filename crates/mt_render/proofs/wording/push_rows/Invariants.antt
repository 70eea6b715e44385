use Rattle.std.proofs.Common.{◌≡◌, ◌++◌, drop}
use Rattle.std.specs.List.{flat_map}
use Rattle.mt_render.specs.Wording.{row_text}
use Rattle.mt_render.proofs.wording.push_rows.Given as goal

-- the lines appended, and those to come
abbrev pub invariant-news : goal.invariant-news
invariant-news l = l.text.items ++ flat_map (row_text l.rows l.space.name.now l.space.number) (drop l.row-index l.news) ≡ l.initial.text.items ++ flat_map (row_text l.rows l.space.name.now l.space.number) l.news
