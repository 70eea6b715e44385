use Rattle.std.proofs.Common.{◌≡◌, ◌++◌, drop}
use Rattle.mt_refused.proofs.missing.path_of.Given as goal

-- the names passed, and those to come
abbrev pub invariant-names : goal.invariant-names
invariant-names l = l.path ++ drop l.name-index l.names ≡ l.names
