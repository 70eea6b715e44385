use Rattle.mt_unmount.proofs.UnmountLaws.{unmounted-kept}
use Rattle.mt_unmount.proofs.laws.unmounting_keeps_worlds.Goals as goal

pub returns : goal.returns
returns c = unmounted-kept
