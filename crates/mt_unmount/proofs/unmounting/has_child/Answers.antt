use Rattle.std.proofs.Common.{sym, ap, ◌∙◌}
use Rattle.std.specs.Prelude.{nat_lt}
use Rattle.mt_mounts.specs.Forest.{stands_on}
use Rattle.mt_unmount.proofs.UnmountLaws.{some-child}
use Rattle.mt_unmount.proofs.unmounting.has_child.Goals as goal

pub returns : goal.returns
returns c = ap (nat_lt 0) c.child_count.ensures ∙ sym (some-child (stands_on c.args.id) c.args.world.now.forest.mounts)
