use Rattle.std.proofs.Common.{◌≡◌, ◌+◌, ◌++◌, drop}
use Rattle.mt_what_if.specs.Scenes.{called_from}
use Rattle.mt_what_if.proofs.scene.names_of.Given as goal

-- the names added, and those to come
abbrev pub invariant-tables : goal.invariant-tables
invariant-tables l = l.spaces.items ++ called_from (l.table + 1) (drop l.table l.fn.tables) ≡ called_from 1 l.fn.tables
