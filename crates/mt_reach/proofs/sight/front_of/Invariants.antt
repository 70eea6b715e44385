use Rattle.std.proofs.Common.{◌≡◌, [], drop}
use Rattle.mt_reach.specs.Sight.{front_from}
use Rattle.mt_reach.proofs.sight.front_of.Given as goal

-- the names that are left lead from the mount that is met to where the path leads
abbrev pub invariant-names : goal.invariant-names
invariant-names l = front_from l.rows l.directory l.ids l.here l.done (drop l.name-index l.name-items) ≡ front_from l.rows l.directory l.ids l.fn.root [] l.name-items
