use Rattle.std.proofs.Common.{◌≡◌, ◌++◌, drop}
use Rattle.mt_what_if.specs.Provided.{nested}
use Rattle.mt_what_if.proofs.provide.nested.Given as goal

-- the commands added, and those to come
abbrev pub invariant-names : goal.invariant-names
invariant-names l = l.commands.items ++ nested l.fs l.path (drop l.name-index l.names) ≡ nested l.fs l.initial.path l.names
