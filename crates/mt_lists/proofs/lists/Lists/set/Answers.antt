use Rattle.std.proofs.Common.{ap, sym, ◌∙◌}
use Rattle.mt_lists.specs.Lists.{with_number}
use Rattle.mt_lists.proofs.RowLaws.{number-taken, with-taken, with-same, same_as}
use Rattle.mt_lists.proofs.lists.Lists.set.Goals as goal

pub returns-then-eq-clause-rows : goal.returns-then-eq-clause-rows
returns-then-eq-clause-rows c =
    with-same c.args.id c.args.number c.args.self.now.rows c.number-old.ensures.rising (sym c.number-old.ensures.number ∙ same_as c.number-old.result c.args.number (sym c.if-eq.true ∙ c.eq.ensures))

pub enter-requires-clause-absent : goal.enter-requires-clause-absent
enter-requires-clause-absent c = sym c.number-old.ensures.number ∙ c.in_default.is

pub enter-requires-2-clause-absent : goal.enter-requires-2-clause-absent
enter-requires-2-clause-absent c = rw c.remove.ensures.rows (number-taken c.args.id c.args.self.now.rows c.number-old.ensures.rising)

pub returns-clause-rows : goal.returns-clause-rows
returns-clause-rows c =
    c.enter-2.ensures.rows ∙ ap (with_number c.args.id c.args.number) c.remove.ensures.rows ∙ with-taken c.args.id c.args.number c.args.self.now.rows c.number-old.ensures.rising
