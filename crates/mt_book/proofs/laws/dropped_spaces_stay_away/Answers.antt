use Rattle.mt_book.proofs.EndLaws.{last_post, silent}
use Rattle.mt_book.proofs.SpaceLaws.{step_ends, step_gone}
use Rattle.mt_book.proofs.laws.dropped_spaces_stay_away.Goals as goal

pub returns : goal.returns
returns c = record {
  gone = step_ends;
  away = step_gone;
  last = last_post;
  none = silent;
}
