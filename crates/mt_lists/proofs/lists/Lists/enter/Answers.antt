use Rattle.std.proofs.Common.{sym, ◌∙◌, ap}
use Rattle.mt_lists.specs.Lists.{with_number}
use Rattle.mt_lists.proofs.RowLaws.{row-unnumbered, without-absent}
use Rattle.mt_lists.proofs.lists.Lists.enter.Goals as goal

pub returns-in_default-clause-rows : goal.returns-in_default-clause-rows
returns-in_default-clause-rows c =
    sym (ap (λ o. with_number c.args.id o c.args.self.now.rows) c.in_default.is ∙ without-absent c.args.id c.args.self.now.rows (row-unnumbered c.args.id c.args.self.now.rows c.requires.absent))
