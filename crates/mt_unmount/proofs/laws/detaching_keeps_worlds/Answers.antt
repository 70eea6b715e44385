use Rattle.mt_unmount.proofs.DetachedLaws.{detached-kept}
use Rattle.mt_unmount.proofs.laws.detaching_keeps_worlds.Goals as goal

pub returns : goal.returns
returns c = detached-kept
