use Rattle.std.proofs.Common.{◌||◌, ap, sym, ◌∙◌}
use Rattle.std.specs.Prelude.{nat_eq}
use Rattle.std.specs.List.{list_any}
use Rattle.std.proofs.lemmas.List.Sorted.{list_any-IsPermutation}
use Rattle.mt_peers.specs.Peers.{names}
use Rattle.mt_propagate.specs.World.{world_view}
use Rattle.mt_propagate.proofs.PlansLaws.{groups-named}
use Rattle.mt_propagate.proofs.groups.standing_groups.Goals as goal

pub returns-clause-standing : goal.returns-clause-standing
returns-clause-standing c g =
    let sorted = list_any-IsPermutation (nat_eq g) c.in_ok-groups.groups.items c.sort_unstable.new.self.items c.sort_unstable.ensures.permutation in
    let all = ap (list_any (nat_eq g)) c.new.ensures ∙ sym sorted ∙ ap (list_any (nat_eq g)) c.in_ok-groups.ensures.groups ∙ groups-named (world_view c.args.world.now) g c.args.targets.now in
    ap (λ b. names c.args.home g || b) all
