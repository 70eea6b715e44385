use Rattle.std.proofs.Common.{[], ◌∙◌, sym, append-nil}
use Rattle.mt_info.proofs.FrontLaws.{front_through, front_of_four}
use Rattle.mt_events.proofs.print.push_event.Goals as goal

pub returns-in_err-push_number-2-clause-kept : goal.returns-in_err-push_number-2-clause-kept
returns-in_err-push_number-2-clause-kept c = front_of_four _ _ _ _ _ (_, c.in_ok-extend_from_slice.ensures.items) c.push_number.ensures.kept (_, c.in_ok-extend_from_slice-2.ensures.items) c.push_number-2.ensures.kept

pub returns-in_err-push_number-3-clause-kept : goal.returns-in_err-push_number-3-clause-kept
returns-in_err-push_number-3-clause-kept c =
    front_through _ _ _ (front_of_four _ _ _ _ _ (_, c.in_ok-extend_from_slice.ensures.items) c.push_number.ensures.kept (_, c.in_ok-extend_from_slice-2.ensures.items) c.push_number-2.ensures.kept)
    (front_through _ _ _ (_, c.in_ok-extend_from_slice-3.ensures.items) c.push_number-3.ensures.kept)

pub returns-in_err-extend_from_slice-clause-kept : goal.returns-in_err-extend_from_slice-clause-kept
returns-in_err-extend_from_slice-clause-kept c = ([], c.in_err-extend_from_slice.ensures.items ∙ sym (append-nil _))

pub returns-in_err-push_number-clause-kept : goal.returns-in_err-push_number-clause-kept
returns-in_err-push_number-clause-kept c = front_through _ _ _ (_, c.in_ok-extend_from_slice.ensures.items) c.push_number.ensures.kept

pub returns-in_err-extend_from_slice-2-clause-kept : goal.returns-in_err-extend_from_slice-2-clause-kept
returns-in_err-extend_from_slice-2-clause-kept c = front_through _ _ _ (front_through _ _ _ (_, c.in_ok-extend_from_slice.ensures.items) c.push_number.ensures.kept) ([], c.in_err-extend_from_slice-2.ensures.items ∙ sym (append-nil _))

pub returns-in_err-extend_from_slice-3-clause-kept : goal.returns-in_err-extend_from_slice-3-clause-kept
returns-in_err-extend_from_slice-3-clause-kept c = front_through _ _ _ (front_of_four _ _ _ _ _ (_, c.in_ok-extend_from_slice.ensures.items) c.push_number.ensures.kept (_, c.in_ok-extend_from_slice-2.ensures.items) c.push_number-2.ensures.kept) ([], c.in_err-extend_from_slice-3.ensures.items ∙ sym (append-nil _))

pub returns-in_err-extend_from_slice-4-clause-kept : goal.returns-in_err-extend_from_slice-4-clause-kept
returns-in_err-extend_from_slice-4-clause-kept c = front_through _ _ _ (front_of_four _ _ _ _ _ (_, c.in_ok-extend_from_slice.ensures.items) c.push_number.ensures.kept (_, c.in_ok-extend_from_slice-2.ensures.items) c.push_number-2.ensures.kept) (front_through _ _ _ (front_through _ _ _ (_, c.in_ok-extend_from_slice-3.ensures.items) c.push_number-3.ensures.kept) ([], c.in_err-extend_from_slice-4.ensures.items ∙ sym (append-nil _)))

pub returns-clause-kept : goal.returns-clause-kept
returns-clause-kept c = front_through _ _ _ (front_of_four _ _ _ _ _ (_, c.in_ok-extend_from_slice.ensures.items) c.push_number.ensures.kept (_, c.in_ok-extend_from_slice-2.ensures.items) c.push_number-2.ensures.kept) (front_through _ _ _ (front_through _ _ _ (_, c.in_ok-extend_from_slice-3.ensures.items) c.push_number-3.ensures.kept) (_, c.in_ok-extend_from_slice-4.ensures.items))
