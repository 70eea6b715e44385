use Rattle.std.proofs.Common.{ap, ◌∙◌}
use Rattle.mt_lists.specs.Lists.{without_row}
use Rattle.mt_lists.proofs.TableLaws.{rows-gone}
use Rattle.mt_lists.proofs.lists.Lists.remove.Goals as goal

pub returns-clause-rows : goal.returns-clause-rows
returns-clause-rows c = c.untie.ensures.rows ∙ rows-gone c.self.inside.entries c.args.id ∙ ap (λ s. without_row c.args.id s.rows) c.self.view_is
