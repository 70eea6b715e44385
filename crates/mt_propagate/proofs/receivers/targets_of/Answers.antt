use Rattle.std.proofs.Common.{◌++◌, ap, ◌∙◌, arith}
use Rattle.std.specs.List.{filter_map}
use Rattle.mt_peers.specs.Peers.{members}
use Rattle.mt_propagate.specs.World.{world_view}
use Rattle.mt_propagate.specs.Targets.{target}
use Rattle.mt_propagate.proofs.CountedLaws.{counted-hits, members-few, above-few}
use Rattle.mt_propagate.proofs.receivers.targets_of.Goals as goal

pub members_met-requires-clause-few : goal.members_met-requires-clause-few
members_met-requires-clause-few c =
    let few = c.allocator.ensures.few in
    let most = members-few c.args.world.now.peers.peers c.args.group in
    let old = c.requires.few in
    omega (arith, few, most, old)

pub above_met-requires-clause-few : goal.above_met-requires-clause-few
above_met-requires-clause-few c =
    let few = c.allocator.ensures.few in
    let first = members-few c.args.world.now.peers.peers c.args.group in
    let then = above-few c.args.world.now.peers.peers c.args.group in
    let old = c.requires.few in
    let met = c.members_met.ensures.most in
    omega (arith, few, first, then, old, met)

pub returns-clause-hits : goal.returns-clause-hits
returns-clause-hits c =
    let w = world_view c.args.world.now in
    let first = c.in_ok-members_met.ensures.ids ∙ ap (λ l. l ++ filter_map (target w c.args.place) (members c.args.world.now.peers.peers c.args.group)) c.new-ids.ensures.items in
    counted-hits w c.args.place c.args.group c.requires.home c.members_met.new.ids.items c.above_met.new.ids.items c.sort.new.self.items c.allocator.ensures.rising first
    (λ q. c.in_ok-above_met.ensures.ids q) c.in_ok-sort.ensures.permutation c.in_ok-sort.ensures.sorted
