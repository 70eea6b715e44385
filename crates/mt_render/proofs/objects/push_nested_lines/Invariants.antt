use Rattle.std.proofs.Common.{◌≡◌, ◌++◌, drop}
use Rattle.std.specs.List.{flat_map}
use Rattle.mt_render.specs.Objects.{nested_line}
use Rattle.mt_render.proofs.objects.push_nested_lines.Given as goal

-- the lines that were appended, and those to come
abbrev pub invariant-parts : goal.invariant-parts
invariant-parts l = l.text.items ++ flat_map (nested_line l.names) (drop l.part-index l.parts) ≡ l.initial.text.items ++ flat_map (nested_line l.names) l.parts
