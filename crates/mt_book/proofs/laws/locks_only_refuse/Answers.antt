use Rattle.mt_book.proofs.LockLaws.{steps_act, nothing_locked, none_locked}
use Rattle.mt_book.proofs.ErasedLaws.{only_refuse}
use Rattle.mt_book.proofs.laws.locks_only_refuse.Goals as goal

pub returns-clause-acts : goal.returns-clause-acts
returns-clause-acts c = steps_act

pub returns-clause-refuse : goal.returns-clause-refuse
returns-clause-refuse c = only_refuse

pub returns-clause-none : goal.returns-clause-none
returns-clause-none c = nothing_locked

pub returns-clause-never : goal.returns-clause-never
returns-clause-never c = none_locked
