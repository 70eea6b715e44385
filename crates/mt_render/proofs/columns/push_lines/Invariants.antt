use Rattle.std.proofs.Common.{◌≡◌, ◌++◌, drop}
use Rattle.std.specs.List.{flat_map}
use Rattle.mt_render.specs.Columns.{cells_line}
use Rattle.mt_render.proofs.columns.push_lines.Given as goal

-- what was appended, and what is to come
abbrev pub invariant-loop-line : goal.invariant-loop-line
invariant-loop-line l = l.text.items ++ flat_map (cells_line l.widths) (drop l.line-index l.lines) ≡ l.initial.text.items ++ flat_map (cells_line l.widths) l.lines
