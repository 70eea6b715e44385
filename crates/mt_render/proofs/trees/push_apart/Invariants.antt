use Rattle.std.proofs.Common.{◌≡◌, ◌++◌, drop}
use Rattle.mt_render.specs.Trees.{apart}
use Rattle.mt_render.proofs.trees.push_apart.Given as goal

-- what was appended, and what is to come
abbrev pub invariant-parts : goal.invariant-parts
invariant-parts l = l.text.items ++ apart l.strokes l.names (drop l.part-index l.parts) ≡ l.initial.text.items ++ apart l.strokes l.names l.parts
