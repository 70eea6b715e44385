use Rattle.std.proofs.Common.{◌++◌, ap, ◌∙◌}
use Rattle.std.specs.List.{flat_map}
use Rattle.mt_skel.specs.Keyed.{among}
use Rattle.mt_skel.proofs.ElementLaws.{in_right}
use Rattle.mt_peers.specs.Peers.{slaves}
use Rattle.mt_propagate.proofs.BelowGroupLaws.{in-among, among-in, below-slaves}
use Rattle.mt_propagate.proofs.below_groups.push_below.Goals as goal

pub returns-clause-below : goal.returns-clause-below
returns-clause-below c none i b =
    let es = c.args.world.now.peers.peers in
    let found = c.in_ok-below.below.items in
    let more = flat_map (slaves es) found in
    let there = below-slaves es c.args.group found c.in_ok-below.ensures.groups i b in
    ap (λ xs. among xs i) (c.in_ok-push_slaves.ensures.ids ∙ ap (λ l. c.args.ids.now.items ++ flat_map (slaves es) l) c.deref.ensures.value)
    ∙ among-in (c.args.ids.now.items ++ more) i (in_right i c.args.ids.now.items more (in-among more i there))
