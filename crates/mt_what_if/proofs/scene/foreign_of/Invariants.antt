use Rattle.std.proofs.Common.{◌≡◌, ◌+◌, ◌++◌, drop}
use Rattle.mt_what_if.specs.Scenes.{foreign_from}
use Rattle.mt_what_if.proofs.scene.foreign_of.Given as goal

-- the numbers added, and those to come
abbrev pub invariant-tables : goal.invariant-tables
invariant-tables l = l.foreign.items ++ foreign_from (l.table + 1) (drop l.table l.fn.tables) ≡ foreign_from 1 l.fn.tables
