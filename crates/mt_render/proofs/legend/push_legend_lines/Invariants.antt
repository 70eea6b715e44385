use Rattle.std.proofs.Common.{◌≡◌, ◌++◌, drop}
use Rattle.std.specs.List.{flat_map}
use Rattle.mt_render.specs.Legends.{legend_line}
use Rattle.mt_render.proofs.legend.push_legend_lines.Given as goal

-- what was appended, and what is to come
abbrev pub invariant-groups : goal.invariant-groups
invariant-groups l = l.text.items ++ flat_map (legend_line l.palette l.nodes) (drop l.group-index l.groups) ≡ l.initial.text.items ++ flat_map (legend_line l.palette l.nodes) l.groups
