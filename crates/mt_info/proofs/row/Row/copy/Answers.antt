use Rattle.std.proofs.Common.{refl}
use Rattle.mt_info.proofs.RowPaths.{row_same}
use Rattle.mt_info.proofs.row.Row.copy.Goals as goal

pub returns-clause-copy : goal.returns-clause-copy
returns-clause-copy c =
    row_same _ c.args.self.now refl refl refl c.in_ok-copy.ensures.copy c.in_ok-copy-2.ensures.copy refl refl refl refl refl c.in_ok-copy-3.ensures.copy c.in_ok-copy-4.ensures.copy
