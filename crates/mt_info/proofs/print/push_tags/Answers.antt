use Rattle.std.proofs.Common.{refl, codes}
use Rattle.mt_info.specs.RowLine.{tag}
use Rattle.mt_info.proofs.FrontLaws.{front_same, front_through, front_of_three, fields_appended, three_fields}
use Rattle.mt_info.proofs.print.push_tags.Goals as goal

pub returns-in_ok-extend_from_slice-clause-text : goal.returns-in_ok-extend_from_slice-clause-text
returns-in_ok-extend_from_slice-clause-text c =
    rw c.if-unbindable.true (fields_appended c.args.separator c.args.text.now.items c.push_tag.new.text.items c.push_tag-2.new.text.items c.push_tag-3.new.text.items c.push.new.self.items c.extend_from_slice.new.self.items
    (tag (codes "shared:") c.args.shared) (tag (codes "master:") c.args.master) (tag (codes "propagate_from:") c.args.via) (codes "unbindable")
    c.in_ok-push_tag.ensures.text c.in_ok-push_tag-2.ensures.text c.in_ok-push_tag-3.ensures.text c.in_ok-push.ensures.items c.in_ok-extend_from_slice.ensures.items)

pub returns-in_err-push_tag-2-clause-kept : goal.returns-in_err-push_tag-2-clause-kept
returns-in_err-push_tag-2-clause-kept c = front_through _ _ _ c.push_tag.ensures.kept c.push_tag-2.ensures.kept

pub returns-in_err-push_tag-3-clause-kept : goal.returns-in_err-push_tag-3-clause-kept
returns-in_err-push_tag-3-clause-kept c = front_through _ _ _ c.push_tag.ensures.kept (front_through _ _ _ c.push_tag-2.ensures.kept c.push_tag-3.ensures.kept)

pub returns-in_err-push_tag-clause-kept : goal.returns-in_err-push_tag-clause-kept
returns-in_err-push_tag-clause-kept c = c.push_tag.ensures.kept

pub returns-then-not-unbindable-clause-kept : goal.returns-then-not-unbindable-clause-kept
returns-then-not-unbindable-clause-kept c = front_same _ _ refl

pub returns-in_err-push-clause-kept : goal.returns-in_err-push-clause-kept
returns-in_err-push-clause-kept c = front_through _ _ _ (front_of_three _ _ _ _ c.push_tag.ensures.kept c.push_tag-2.ensures.kept c.push_tag-3.ensures.kept) (front_same _ _ c.in_err-push.ensures.items)

pub returns-in_err-extend_from_slice-clause-kept : goal.returns-in_err-extend_from_slice-clause-kept
returns-in_err-extend_from_slice-clause-kept c = front_of_three _ _ _ _ (front_of_three _ _ _ _ c.push_tag.ensures.kept c.push_tag-2.ensures.kept c.push_tag-3.ensures.kept) (_, c.in_ok-push.ensures.items) (front_same _ _ c.in_err-extend_from_slice.ensures.items)

pub returns-in_ok-extend_from_slice-clause-kept : goal.returns-in_ok-extend_from_slice-clause-kept
returns-in_ok-extend_from_slice-clause-kept c = (_, returns-in_ok-extend_from_slice-clause-text c)

pub returns-else-unbindable-clause-text : goal.returns-else-unbindable-clause-text
returns-else-unbindable-clause-text c =
    rw c.if-unbindable.false (three_fields c.args.separator c.args.text.now.items c.push_tag.new.text.items c.push_tag-2.new.text.items c.push_tag-3.new.text.items
    (tag (codes "shared:") c.args.shared) (tag (codes "master:") c.args.master) (tag (codes "propagate_from:") c.args.via) c.in_ok-push_tag.ensures.text c.in_ok-push_tag-2.ensures.text c.in_ok-push_tag-3.ensures.text)

pub returns-else-unbindable-clause-kept : goal.returns-else-unbindable-clause-kept
returns-else-unbindable-clause-kept c = front_of_three _ _ _ _ c.push_tag.ensures.kept c.push_tag-2.ensures.kept c.push_tag-3.ensures.kept
