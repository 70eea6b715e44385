use Rattle.std.proofs.Common.{◌≡◌, ◌++◌, map, drop}
use Rattle.mt_what_if.specs.Naming.{marked}
use Rattle.mt_what_if.proofs.naming.all_marked.Given as goal

-- the namespaces added, and those to come
abbrev pub invariant-names : goal.invariant-names
invariant-names l = l.spaces.items ++ map (marked l.lines) (drop l.name-index l.names) ≡ map (marked l.lines) l.names
