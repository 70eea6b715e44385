use Rattle.mt_info.proofs.OutsideTables.{same_table}
use Rattle.mt_info.proofs.laws.tables_outside_stay.Goals as goal

pub returns : goal.returns
returns c = same_table
