use Rattle.mt_book.proofs.CoveredLaws.{covered_stays}
use Rattle.mt_book.proofs.laws.covered_mounts_stay_covered.Goals as goal

pub returns : goal.returns
returns c = covered_stays
