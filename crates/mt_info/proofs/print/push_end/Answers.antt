use Rattle.std.proofs.Common.{codes}
use Rattle.mt_skel.specs.Escapes.{escaped}
use Rattle.mt_info.proofs.FrontLaws.{front_same, front_through, front_of_three, five_appended}
use Rattle.mt_info.proofs.print.push_end.Goals as goal

pub returns-clause-text : goal.returns-clause-text
returns-clause-text c =
    five_appended _ _ _ _ _ _ (codes " - ") (escaped c.args.kind.now) (codes " ") (escaped c.args.source.now) (codes " rw")
    c.in_ok-extend_from_slice.ensures.items c.in_ok-push_label.ensures.text c.in_ok-push.ensures.items c.in_ok-push_label-2.ensures.text c.in_ok-extend_from_slice-2.ensures.items

pub returns-clause-kept : goal.returns-clause-kept
returns-clause-kept c = (_, returns-clause-text c)

pub returns-in_err-extend_from_slice-clause-kept : goal.returns-in_err-extend_from_slice-clause-kept
returns-in_err-extend_from_slice-clause-kept c = front_same _ _ c.in_err-extend_from_slice.ensures.items

pub returns-in_err-push_label-clause-kept : goal.returns-in_err-push_label-clause-kept
returns-in_err-push_label-clause-kept c = front_through _ _ _ (_, c.in_ok-extend_from_slice.ensures.items) c.push_label.ensures.kept

pub returns-in_err-push-clause-kept : goal.returns-in_err-push-clause-kept
returns-in_err-push-clause-kept c = front_of_three _ _ _ _ (_, c.in_ok-extend_from_slice.ensures.items) c.push_label.ensures.kept (front_same _ _ c.in_err-push.ensures.items)

pub returns-in_err-push_label-2-clause-kept : goal.returns-in_err-push_label-2-clause-kept
returns-in_err-push_label-2-clause-kept c = front_through _ _ _ (front_of_three _ _ _ _ (_, c.in_ok-extend_from_slice.ensures.items) c.push_label.ensures.kept (_, c.in_ok-push.ensures.items)) c.push_label-2.ensures.kept

pub returns-in_err-extend_from_slice-2-clause-kept : goal.returns-in_err-extend_from_slice-2-clause-kept
returns-in_err-extend_from_slice-2-clause-kept c = front_of_three _ _ _ _ (front_of_three _ _ _ _ (_, c.in_ok-extend_from_slice.ensures.items) c.push_label.ensures.kept (_, c.in_ok-push.ensures.items)) c.push_label-2.ensures.kept (front_same _ _ c.in_err-extend_from_slice-2.ensures.items)
