use Rattle.mt_unmount.proofs.InsideLaws.{detached-contained, detached-outside}
use Rattle.mt_unmount.proofs.laws.detaching_stays_inside.Goals as goal

pub returns-clause-kept : goal.returns-clause-kept
returns-clause-kept c = detached-contained

pub returns-clause-inside : goal.returns-clause-inside
returns-clause-inside c = detached-outside
