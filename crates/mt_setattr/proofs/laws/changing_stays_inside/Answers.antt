use Rattle.mt_setattr.proofs.InsideLaws.{attributed-contained, attributed-outside}
use Rattle.mt_setattr.proofs.laws.changing_stays_inside.Goals as goal

pub returns-clause-kept : goal.returns-clause-kept
returns-clause-kept c = attributed-contained

pub returns-clause-inside : goal.returns-clause-inside
returns-clause-inside c = attributed-outside
