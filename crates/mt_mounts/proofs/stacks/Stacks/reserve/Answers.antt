use Rattle.mt_mounts.specs.declared.stacks.Stacks.{Stacks}
use Rattle.mt_mounts.proofs.StackLaws.{stacked_kept}
use Rattle.mt_mounts.proofs.stacks.Stacks.reserve.Goals as goal

pub returns-in_err-reserve-2-clause-stacked : goal.returns-in_err-reserve-2-clause-stacked
returns-in_err-reserve-2-clause-stacked c =
    let new : Stacks = record { ends = c.reserve.new.self; starts = c.reserve-2.new.self } in
    λ next x. stacked_kept next c.args.self.now new c.reserve.ensures.entries c.reserve-2.ensures.entries x

pub returns-clause-stacked : goal.returns-clause-stacked
returns-clause-stacked c =
    let new : Stacks = record { ends = c.reserve.new.self; starts = c.reserve-2.new.self } in
    λ next x. stacked_kept next c.args.self.now new c.reserve.ensures.entries c.reserve-2.ensures.entries x
