use Rattle.mt_setattr.proofs.ChangeLaws.{change-kept}
use Rattle.mt_setattr.proofs.laws.changing_keeps_worlds.Goals as goal

pub returns : goal.returns
returns c = change-kept
