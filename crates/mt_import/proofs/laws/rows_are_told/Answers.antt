use Rattle.mt_import.proofs.RowLaws.{rows_told}
use Rattle.mt_import.proofs.laws.rows_are_told.Goals as goal

pub returns : goal.returns
returns c = rows_told
