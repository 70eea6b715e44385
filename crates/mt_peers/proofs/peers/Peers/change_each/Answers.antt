use Rattle.std.proofs.Common.{nat_eq, get_or, ◌∙◌, arith}
use Rattle.mt_peers.specs.Peers.{peering_of}
use Rattle.mt_peers.proofs.EachLaws.{each-step, each-end, each-rises}
use Rattle.mt_peers.proofs.peers.Peers.change_each.Goals as goal

pub loop-id-preserved : goal.loop-id-preserved
loop-id-preserved c = record {
  told =
      each-step c.args.kind c.args.ids.now c.loop-id.id-index 0 (peering_of c.loop-id.self) (peering_of c.change_one.new.self) _ c.requires.sorted c.loop-id-test.true c.loop-id.invariant.rising
      c.change_one.ensures.unsettled c.loop-id.invariant.told;
  rising = each-rises c.args.kind (nat_eq (get_or c.args.ids.now c.loop-id.id-index 0)) (peering_of c.loop-id.self) (peering_of c.change_one.new.self) c.change_one.ensures.unsettled c.loop-id.invariant.rising;
  next = omega (arith, c.change_one.ensures.numbers, c.loop-id.invariant.next);
  since = c.change_one.ensures.since ∙ c.loop-id.invariant.since;
  room = omega (arith, c.change_one.ensures.room, c.loop-id.invariant.room);
}

pub change_one-requires-clause-numbered : goal.change_one-requires-clause-numbered
change_one-requires-clause-numbered c shared = let fit = c.requires.numbered shared in omega (arith, fit, c.loop-id.invariant.next, c.loop-id-test.true)

pub returns-clause-unsettled : goal.returns-clause-unsettled
returns-clause-unsettled c = each-end c.args.kind c.args.ids.now c.loop-id.id-index (peering_of c.loop-id.self) c.loop-id-test.false ∙ c.loop-id.invariant.told
