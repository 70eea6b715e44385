use Rattle.std.proofs.Common.{arith}
use Rattle.mt_propagate.specs.Planned.{stands}
use Rattle.mt_propagate.proofs.NearestLaws.{nearest-near}
use Rattle.mt_propagate.proofs.nearest.nearest_from.Goals as goal

pub returns-clause-nearest : goal.returns-clause-nearest
returns-clause-nearest c =
    nearest-near (stands c.args.standing.now) c.args.world.now.peers.peers c.args.group c.reached-end.result c.reached-end.ensures (omega (arith, c.len.ensures, c.if-len-end.false))
