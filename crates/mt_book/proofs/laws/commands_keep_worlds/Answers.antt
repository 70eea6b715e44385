use Rattle.mt_book.proofs.HistoryLaws.{after_good}
use Rattle.mt_book.proofs.RiseLaws.{step_rises}
use Rattle.mt_book.proofs.SpaceLaws.{step_stays}
use Rattle.mt_book.proofs.StepLaws.{step_kept}
use Rattle.mt_book.proofs.laws.commands_keep_worlds.Goals as goal

pub returns : goal.returns
returns c = record {
  step = step_kept;
  after = λ cs. (after_good cs).formed;
  numbers = step_rises;
  spaces = step_stays;
}
