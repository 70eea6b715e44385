use Rattle.mt_book.proofs.CountLaws.{posts_few}
use Rattle.mt_book.proofs.EndLaws.{number_late, number_some}
use Rattle.mt_book.proofs.HistoryLaws.{posts_events, numbers_up}
use Rattle.mt_book.proofs.ValidLaws.{posts_valid}
use Rattle.mt_book.proofs.laws.posts_are_events.Goals as goal

pub returns : goal.returns
returns c = record {
  events = posts_events;
  numbers = numbers_up;
  none = number_late;
  some = number_some;
  few = posts_few;
  valid = posts_valid;
}
