use Rattle.mt_render.proofs.BelowLaws.{stands_below}
use Rattle.mt_render.proofs.laws.children_stand_below.Goals as goal

pub returns : goal.returns
returns c = stands_below
