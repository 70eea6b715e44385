use Rattle.std.proofs.Common.{length, ◌∙◌, arith}
use Rattle.mt_peers.specs.Peers.{has_member}
use Rattle.mt_peers.specs.Masters.{master_of}
use Rattle.mt_peers.proofs.WayLaws.{first-near}
use Rattle.mt_peers.proofs.vanished.heir_from.Goals as goal

pub returns-clause-heir : goal.returns-clause-heir
returns-clause-heir c old new told v few =
    let r = c.reached-end.ensures old new told v in
    let end = c.reached-end.result in
    c.living.ensures new told
    ∙ first-near (has_member new) (master_of old) (length old) c.args.group end.steps end.up r.above (omega (arith, few, c.if-most-end.false))
    (λ h e off. let i = rw e at r.ended c.if-most-end.false in i off)
