use Rattle.std.proofs.Common.{ap, ◌∙◌, arith}
use Rattle.mt_lists.specs.Lists.{listed_number}
use Rattle.mt_lists.proofs.RowLaws.{row-unnumbered}
use Rattle.mt_lists.proofs.TableLaws.{length-rows, tie-none}
use Rattle.mt_lists.specs.Tables.{rows_of}
use Rattle.mt_lists.proofs.lists.Lists.insert.Goals as goal

pub tie-requires-clause-free : goal.tie-requires-clause-free
tie-requires-clause-free c = tie-none c.self.inside.entries c.args.id (row-unnumbered c.args.id (rows_of c.self.inside.entries) (ap (λ s. listed_number s.rows c.args.id) c.self.view_is ∙ c.requires.absent))

pub tie-requires-clause-few : goal.tie-requires-clause-few
tie-requires-clause-few c =
    let rows = length-rows c.self.inside.entries c.len-len.ensures.unique in
    let len = c.len-len.ensures.len in
    let small = c.len-len.ensures.small in
    omega (arith, rows, len, small)
