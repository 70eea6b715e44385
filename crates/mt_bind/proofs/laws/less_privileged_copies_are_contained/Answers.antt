use Rattle.mt_bind.proofs.InsideLaws.{less_copied}
use Rattle.mt_bind.proofs.laws.less_privileged_copies_are_contained.Goals as goal

pub returns : goal.returns
returns c = less_copied
