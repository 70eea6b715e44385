use Rattle.mt_book.proofs.InsideLaws.{step_contained, step_inside, less_inside, number_stays, book_inside}
use Rattle.mt_book.proofs.laws.less_privileged_copies_stay_inside.Goals as goal

pub returns : goal.returns
returns c = record {
  kept = step_contained;
  inside = step_inside;
  tables = less_inside;
  numbers = number_stays;
  books = book_inside;
}
