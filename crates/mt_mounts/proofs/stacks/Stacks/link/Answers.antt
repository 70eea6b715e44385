use Rattle.std.proofs.Common.{◌+◌, arith}
use Rattle.mt_mounts.specs.declared.stacks.Stacks.{Stacks}
use Rattle.mt_mounts.proofs.StackLaws.{stacked_linked, stacked_past}
use Rattle.mt_mounts.proofs.stacks.Stacks.link.Goals as goal

pub returns-then-begun-lt18446744073709551615-clause-stacked :
    goal.returns-then-begun-lt18446744073709551615-clause-stacked
returns-then-begun-lt18446744073709551615-clause-stacked c =
    let begun = c.begun-begun.result in
    let marked = c.write-then-begun-lt18446744073709551615 in
    let new : Stacks = record { ends = c.write.new.table; starts = marked.new.table } in
    λ next free bare x. stacked_linked next c.args.place c.args.root free bare c.args.self.now new begun (begun.steps + 1) (omega arith) x (c.begun-begun.ensures next x) c.write.ensures.table marked.ensures.table

pub returns-else-begun-lt18446744073709551615-clause-stacked :
    goal.returns-else-begun-lt18446744073709551615-clause-stacked
returns-else-begun-lt18446744073709551615-clause-stacked c = λ next free bare x. stacked_past next c.args.place c.args.root free bare c.args.self.now x
