use Rattle.std.proofs.Common.{◌≡◌, drop}
use Rattle.mt_render.specs.Named.{name_in}
use Rattle.mt_render.proofs.named.name_in.Given as goal

-- the first name among those that are left is the first one of all
abbrev pub invariant-names : goal.invariant-names
invariant-names l = name_in (drop l.name-index l.names) l.space ≡ name_in l.names l.space
