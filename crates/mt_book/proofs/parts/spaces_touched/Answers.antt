use Rattle.std.proofs.Common.{arith}
use Rattle.std.proofs.lemmas.Grind.{common_steps}
use Rattle.mt_book.proofs.parts.spaces_touched.Goals as goal

pub mounts-preserved : goal.mounts-preserved
mounts-preserved c = λ n. grind (arith, common_steps)
