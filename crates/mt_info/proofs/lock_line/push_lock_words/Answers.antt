use Rattle.std.proofs.Common.{◌++◌, ◌∙◌, refl, ap, drop}
use Rattle.mt_info.proofs.FrontLaws.{front_same}
use Rattle.mt_info.proofs.LockLineLaws.{locks_listed}
use Rattle.mt_info.proofs.lock_line.push_lock_words.Goals as goal

pub returns-clause-text : goal.returns-clause-text
returns-clause-text c =
    c.in_ok-push_behind_first.ensures.text
    ∙ ap (λ t. c.args.text.now.items ++ t)
    (ap (drop 1) c.deref.ensures.value
    ∙ locks_listed c.args.locks.now _ _ _ _ _ _ _ c.new-fields.ensures.items c.in_ok-push_option.ensures.text c.in_ok-push_option-2.ensures.text c.in_ok-push_option-3.ensures.text
    c.in_ok-push_option-4.ensures.text c.in_ok-push_option-5.ensures.text c.in_ok-push_option-6.ensures.text)

pub returns-in_err-push_option-clause-kept : goal.returns-in_err-push_option-clause-kept
returns-in_err-push_option-clause-kept c = front_same _ _ refl

pub returns-in_err-push_option-2-clause-kept : goal.returns-in_err-push_option-2-clause-kept
returns-in_err-push_option-2-clause-kept c = front_same _ _ refl

pub returns-in_err-push_option-3-clause-kept : goal.returns-in_err-push_option-3-clause-kept
returns-in_err-push_option-3-clause-kept c = front_same _ _ refl

pub returns-in_err-push_option-4-clause-kept : goal.returns-in_err-push_option-4-clause-kept
returns-in_err-push_option-4-clause-kept c = front_same _ _ refl

pub returns-in_err-push_option-5-clause-kept : goal.returns-in_err-push_option-5-clause-kept
returns-in_err-push_option-5-clause-kept c = front_same _ _ refl

pub returns-in_err-push_option-6-clause-kept : goal.returns-in_err-push_option-6-clause-kept
returns-in_err-push_option-6-clause-kept c = front_same _ _ refl

pub returns-in_err-push_behind_first-clause-kept : goal.returns-in_err-push_behind_first-clause-kept
returns-in_err-push_behind_first-clause-kept c = c.push_behind_first.ensures.kept

pub returns-clause-kept : goal.returns-clause-kept
returns-clause-kept c = c.push_behind_first.ensures.kept
