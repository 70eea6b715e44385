use Rattle.std.proofs.Common.{nat_eq, Some, sym, ◌∙◌, subst}
use Rattle.indexmap.specs.IndexMap.{get}
use Rattle.mt_peers.specs.Peers.{has_member}
use Rattle.mt_peers.specs.Masters.{master_of}
use Rattle.mt_peers.specs.Ways.{IsAbove}
use Rattle.mt_peers.proofs.WayLaws.{above-join}
use Rattle.mt_peers.proofs.VanishedLaws.{known-step}
use Rattle.mt_peers.proofs.vanished.reached.Goals as goal

pub chain-preserved : goal.chain-preserved
chain-preserved c old new told v =
    let here = c.chain.here in
    let next = c.in-Some-known_above.next in
    let passed = c.in-Some.passed in
    let s = known-step (has_member new passed) (get nat_eq c.args.vanished.now passed) next (sym (c.known_above.ensures.known new told) ∙ c.in-Some-known_above.is) in
    above-join (has_member new) (master_of old) (Some c.args.group) here.up next.up here.steps next.steps (c.chain.invariant old new told v)
    (subst (λ m. IsAbove (has_member new) (master_of old) m next.up next.steps) (sym c.in-Some.is) (v.known passed next s.0 s.1))
