use Rattle.mt_unmount.proofs.GoingLaws.{taken-can-go, taken-reveals, taken-most}
use Rattle.mt_unmount.proofs.laws.detaching_takes_most.Goals as goal

pub returns-clause-whole : goal.returns-clause-whole
returns-clause-whole c = taken-can-go

pub returns-clause-reveals : goal.returns-clause-reveals
returns-clause-reveals c = taken-reveals

pub returns-clause-most : goal.returns-clause-most
returns-clause-most c = taken-most
