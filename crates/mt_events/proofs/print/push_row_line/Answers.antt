use Rattle.std.proofs.Common.{[], ◌∙◌, sym, append-nil}
use Rattle.mt_info.proofs.FrontLaws.{front_through}
use Rattle.mt_events.proofs.print.push_row_line.Goals as goal

pub returns-in_err-extend_from_slice-clause-kept : goal.returns-in_err-extend_from_slice-clause-kept
returns-in_err-extend_from_slice-clause-kept c = ([], c.in_err-extend_from_slice.ensures.items ∙ sym (append-nil _))

pub returns-in_err-push_row-clause-kept : goal.returns-in_err-push_row-clause-kept
returns-in_err-push_row-clause-kept c = front_through _ _ _ (_, c.in_ok-extend_from_slice.ensures.items) c.push_row.ensures.kept

pub returns-in_err-extend_from_slice-2-clause-kept : goal.returns-in_err-extend_from_slice-2-clause-kept
returns-in_err-extend_from_slice-2-clause-kept c = front_through _ _ _ (front_through _ _ _ (_, c.in_ok-extend_from_slice.ensures.items) c.push_row.ensures.kept) ([], c.in_err-extend_from_slice-2.ensures.items ∙ sym (append-nil _))

pub returns-clause-kept : goal.returns-clause-kept
returns-clause-kept c = front_through _ _ _ (front_through _ _ _ (_, c.in_ok-extend_from_slice.ensures.items) c.push_row.ensures.kept) (_, c.in_ok-extend_from_slice-2.ensures.items)
