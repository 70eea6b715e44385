use Rattle.std.proofs.Common.{◌≡◌, ◌++◌, drop}
use Rattle.mt_render.specs.Groups.{nodes}
use Rattle.mt_render.proofs.groups.nodes_of.Given as goal

-- what was appended, and what is to come
abbrev pub invariant-parts : goal.invariant-parts
invariant-parts l = l.nodes.items ++ nodes (drop l.part-index l.parts) ≡ nodes l.parts
