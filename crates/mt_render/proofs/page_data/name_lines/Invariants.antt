use Rattle.std.proofs.Common.{◌≡◌, ◌++◌, drop}
use Rattle.std.specs.List.{flat_map}
use Rattle.mt_render.specs.PageData.{name_line}
use Rattle.mt_render.proofs.page_data.name_lines.Given as goal

-- the lines that were appended, and those to come
abbrev pub invariant-names : goal.invariant-names
invariant-names l = l.lines.items ++ flat_map name_line (drop l.name-index l.names) ≡ flat_map name_line l.names
