use Rattle.std.proofs.Common.{ap, ◌∙◌, arith}
use Rattle.std.proofs.lemmas.List.{take_all}
use Rattle.mt_skel.specs.Keyed.{among}
use Rattle.mt_propagate.specs.World.{world_view}
use Rattle.mt_propagate.proofs.BelowGroupLaws.{below-top}
use Rattle.mt_propagate.proofs.below_groups.push_all_below.Goals as goal

pub returns-clause-below : goal.returns-clause-below
returns-clause-below c g i e b =
    below-top (world_view c.args.world.now).peering c.requires.order c.args.groups.now (among c.groups.ids.items)
    (λ g i e none b. c.groups.invariant.below g i (ap (λ xs. among xs g) (take_all c.groups.group-index c.args.groups.now (omega (arith, c.groups-test.false))) ∙ e) none b) g i e b
