use Rattle.std.proofs.Common.{Some, None}
use Rattle.mt_mounts.proofs.StackLaws.{only_there, stacked_at}
use Rattle.mt_mounts.proofs.stacks.Stacks.leave.Goals as goal

pub returns-in-Some-clause-stacked : goal.returns-in-Some-clause-stacked
returns-in-Some-clause-stacked c =
    λ next only x. stacked_at c.args.mount (Some c.in-Some.place) None next c.cut.new.self c.in-Some.is
    (c.cut.ensures.stacked next (only_there c.args.mount next only c.in-Some.place c.root_place.result c.in-Some.is c.root_place.ensures) x)

pub returns-in_default-clause-stacked : goal.returns-in_default-clause-stacked
returns-in_default-clause-stacked c = λ next only x. stacked_at c.args.mount None None next c.args.self.now c.in_default.is x
