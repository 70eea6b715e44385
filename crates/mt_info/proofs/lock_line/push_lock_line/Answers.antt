use Rattle.mt_info.proofs.FrontLaws.{front_same, front_through, front_of_three, front_of_four}
use Rattle.mt_info.proofs.lock_line.push_lock_line.Goals as goal

pub returns-in_err-push_number-clause-kept : goal.returns-in_err-push_number-clause-kept
returns-in_err-push_number-clause-kept c = c.push_number.ensures.kept

pub returns-in_err-push-clause-kept : goal.returns-in_err-push-clause-kept
returns-in_err-push-clause-kept c = front_through _ _ _ c.push_number.ensures.kept (front_same _ _ c.in_err-push.ensures.items)

pub returns-in_err-push_lock_words-clause-kept : goal.returns-in_err-push_lock_words-clause-kept
returns-in_err-push_lock_words-clause-kept c = front_of_three _ _ _ _ c.push_number.ensures.kept (_, c.in_ok-push.ensures.items) c.push_lock_words.ensures.kept

pub returns-in_err-push-2-clause-kept : goal.returns-in_err-push-2-clause-kept
returns-in_err-push-2-clause-kept c = front_of_four _ _ _ _ _ c.push_number.ensures.kept (_, c.in_ok-push.ensures.items) c.push_lock_words.ensures.kept (front_same _ _ c.in_err-push-2.ensures.items)

pub returns-clause-kept : goal.returns-clause-kept
returns-clause-kept c = front_of_four _ _ _ _ _ c.push_number.ensures.kept (_, c.in_ok-push.ensures.items) c.push_lock_words.ensures.kept (_, c.in_ok-push-2.ensures.items)
