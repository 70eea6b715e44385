use Rattle.std.proofs.Common.{◌≡◌, [], drop}
use Rattle.mt_reach.specs.Walking.{walked_from}
use Rattle.mt_reach.proofs.walking.walk_rows.Given as goal

-- the names that are left lead from the mount that is met to where the path leads
abbrev pub invariant-names : goal.invariant-names
invariant-names l = walked_from l.rows l.here l.done (drop l.name-index l.name-items) ≡ walked_from l.rows l.fn.root [] l.name-items
