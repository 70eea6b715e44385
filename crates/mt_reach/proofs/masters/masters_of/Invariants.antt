use Rattle.std.proofs.Common.{take}
use Rattle.mt_reach.specs.Rows.{peers_in}
use Rattle.mt_reach.specs.Masters.{AreMasters}
use Rattle.mt_reach.proofs.masters.masters_of.Given as goal

-- the masters are those of the rows passed
abbrev pub invariant-rows : goal.invariant-rows
invariant-rows l = AreMasters (peers_in (take l.row-index l.rows)) l.masters
