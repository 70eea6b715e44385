use Rattle.std.proofs.Common.{codes, decimal}
use Rattle.mt_info.proofs.FrontLaws.{front_same, front_through, front_of_three, front_of_four, six_appended}
use Rattle.mt_info.proofs.print.push_numbers.Goals as goal

pub returns-clause-text : goal.returns-clause-text
returns-clause-text c =
    six_appended _ _ _ _ _ _ _ (decimal c.args.id) (codes " ") (decimal c.args.parent) (codes " 0:") (decimal c.args.minor) (codes " ")
    c.in_ok-push_number.ensures.text c.in_ok-push.ensures.items c.in_ok-push_number-2.ensures.text c.in_ok-extend_from_slice.ensures.items c.in_ok-push_number-3.ensures.text c.in_ok-push-2.ensures.items

pub returns-clause-kept : goal.returns-clause-kept
returns-clause-kept c = (_, returns-clause-text c)

pub returns-in_err-push_number-clause-kept : goal.returns-in_err-push_number-clause-kept
returns-in_err-push_number-clause-kept c = c.push_number.ensures.kept

pub returns-in_err-push-clause-kept : goal.returns-in_err-push-clause-kept
returns-in_err-push-clause-kept c = front_through _ _ _ c.push_number.ensures.kept (front_same _ _ c.in_err-push.ensures.items)

pub returns-in_err-push_number-2-clause-kept : goal.returns-in_err-push_number-2-clause-kept
returns-in_err-push_number-2-clause-kept c = front_of_three _ _ _ _ c.push_number.ensures.kept (_, c.in_ok-push.ensures.items) c.push_number-2.ensures.kept

pub returns-in_err-extend_from_slice-clause-kept : goal.returns-in_err-extend_from_slice-clause-kept
returns-in_err-extend_from_slice-clause-kept c = front_through _ _ _ (front_of_three _ _ _ _ c.push_number.ensures.kept (_, c.in_ok-push.ensures.items) c.push_number-2.ensures.kept) (front_same _ _ c.in_err-extend_from_slice.ensures.items)

pub returns-in_err-push_number-3-clause-kept : goal.returns-in_err-push_number-3-clause-kept
returns-in_err-push_number-3-clause-kept c = front_of_three _ _ _ _ (front_of_three _ _ _ _ c.push_number.ensures.kept (_, c.in_ok-push.ensures.items) c.push_number-2.ensures.kept) (_, c.in_ok-extend_from_slice.ensures.items) c.push_number-3.ensures.kept

pub returns-in_err-push-2-clause-kept : goal.returns-in_err-push-2-clause-kept
returns-in_err-push-2-clause-kept c = front_of_four _ _ _ _ _ (front_of_three _ _ _ _ c.push_number.ensures.kept (_, c.in_ok-push.ensures.items) c.push_number-2.ensures.kept) (_, c.in_ok-extend_from_slice.ensures.items) c.push_number-3.ensures.kept (front_same _ _ c.in_err-push-2.ensures.items)
