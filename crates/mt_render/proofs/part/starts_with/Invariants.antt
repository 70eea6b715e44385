use Rattle.std.proofs.Common.{◌≡◌, drop}
use Rattle.std.specs.List.{starts_with}
use Rattle.std.specs.Str.{bytes_eq}
use Rattle.mt_render.proofs.part.starts_with.Given as goal

-- the names passed were equal
abbrev pub invariant-first : goal.invariant-first
invariant-first l = starts_with bytes_eq l.below.rest.now (drop l.name-index l.first) ≡ starts_with bytes_eq l.names l.first
