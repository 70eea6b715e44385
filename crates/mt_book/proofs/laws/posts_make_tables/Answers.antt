use Rattle.mt_book.proofs.HistoryLaws.{tables_made, tables_told}
use Rattle.mt_book.proofs.MirrorLaws.{mirrors_followed}
use Rattle.mt_book.proofs.laws.posts_make_tables.Goals as goal

pub returns : goal.returns
returns c = record {
  made = tables_made;
  told = tables_told;
  mirrors = mirrors_followed;
}
