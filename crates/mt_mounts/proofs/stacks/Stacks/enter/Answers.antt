use Rattle.std.proofs.Common.{Some, None}
use Rattle.mt_mounts.specs.Forest.{root_place}
use Rattle.mt_mounts.proofs.StackLaws.{stacked_past, stacked_at}
use Rattle.mt_mounts.proofs.stacks.Stacks.enter.Goals as goal

pub returns-then-on_root-clause-stacked : goal.returns-then-on_root-clause-stacked
returns-then-on_root-clause-stacked c =
    let linked = rw c.root_place.ensures at c.link.ensures.stacked in
    λ next free bare x. stacked_at c.args.mount (Some c.in-Some.place) (Some (root_place c.args.mount)) next c.link.new.self c.in-Some.is (linked next (free c.in-Some.place c.in-Some.is) bare x)

pub returns-else-on_root-clause-stacked : goal.returns-else-on_root-clause-stacked
returns-else-on_root-clause-stacked c =
    λ next free bare x. stacked_at c.args.mount (Some c.in-Some.place) (Some (root_place c.args.mount)) next c.args.self.now c.in-Some.is
    (stacked_past next c.in-Some.place (root_place c.args.mount) (free c.in-Some.place c.in-Some.is) bare c.args.self.now x)

pub returns-in_default-clause-stacked : goal.returns-in_default-clause-stacked
returns-in_default-clause-stacked c = λ next free bare x. stacked_at c.args.mount None (Some (root_place c.args.mount)) next c.args.self.now c.in_default.is x
