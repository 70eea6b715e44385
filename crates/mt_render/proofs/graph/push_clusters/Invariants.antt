use Rattle.std.proofs.Common.{◌≡◌, ◌++◌, drop}
use Rattle.std.specs.List.{flat_map}
use Rattle.mt_render.specs.Graphs.{cluster}
use Rattle.mt_render.proofs.graph.push_clusters.Given as goal

-- what was appended, and what is to come
abbrev pub invariant-parts : goal.invariant-parts
invariant-parts l = l.text.items ++ flat_map (cluster l.palette l.names) (drop l.part-index l.parts) ≡ l.initial.text.items ++ flat_map (cluster l.palette l.names) l.parts
