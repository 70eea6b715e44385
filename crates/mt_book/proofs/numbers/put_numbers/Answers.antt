use Rattle.std.proofs.Common.{◌∙◌}
use Rattle.mt_book.proofs.ChangedLaws.{next_merged}
use Rattle.mt_book.proofs.numbers.put_numbers.Goals as goal

pub rows-preserved : goal.rows-preserved
rows-preserved c = record {
  rising = c.put_number.ensures.rising;
  rows = λ n. next_merged c.args.changed.now c.rows.all.items c.put_number.new.all.items c.rows.row-index _ c.rows-test.true c.requires.changed c.put_number.ensures.rows n ∙ c.rows.invariant.rows n;
}
