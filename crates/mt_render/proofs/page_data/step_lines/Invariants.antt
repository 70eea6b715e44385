use Rattle.std.proofs.Common.{◌≡◌, ◌++◌, drop}
use Rattle.std.specs.List.{flat_map}
use Rattle.mt_render.specs.PageData.{step_line}
use Rattle.mt_render.proofs.page_data.step_lines.Given as goal

-- the lines that were appended, and those to come
abbrev pub invariant-steps : goal.invariant-steps
invariant-steps l = l.lines.items ++ flat_map step_line (drop l.step-index l.steps) ≡ flat_map step_line l.steps
