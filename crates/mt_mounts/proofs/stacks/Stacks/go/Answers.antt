use Rattle.std.proofs.Common.{refl}
use Rattle.mt_mounts.specs.Forest.{root_place}
use Rattle.mt_mounts.specs.Stacks.{gone_from}
use Rattle.mt_mounts.proofs.StackLaws.{stacked_past, gone_bare}
use Rattle.mt_mounts.proofs.stacks.Stacks.go.Goals as goal

pub returns-else-on_root-clause-stacked : goal.returns-else-on_root-clause-stacked
returns-else-on_root-clause-stacked c =
    λ next free only x. stacked_past (gone_from c.args.mount next) c.args.place (root_place c.args.mount) free (gone_bare c.args.mount next only (root_place c.args.mount) refl) c.leave.new.self (c.leave.ensures.stacked next only x)
