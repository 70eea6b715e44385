use Rattle.std.proofs.Common.{arith}
use Rattle.std.proofs.lemmas.Grind.{common_steps}
use Rattle.mt_refused.proofs.part.push_components.Goals as goal

pub components-preserved : goal.components-preserved
components-preserved c = grind (arith, common_steps)
