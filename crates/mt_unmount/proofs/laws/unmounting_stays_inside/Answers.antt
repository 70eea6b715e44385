use Rattle.mt_unmount.proofs.InsideLaws.{unmounted-contained, unmounted-outside}
use Rattle.mt_unmount.proofs.laws.unmounting_stays_inside.Goals as goal

pub returns-clause-kept : goal.returns-clause-kept
returns-clause-kept c = unmounted-contained

pub returns-clause-inside : goal.returns-clause-inside
returns-clause-inside c = unmounted-outside
