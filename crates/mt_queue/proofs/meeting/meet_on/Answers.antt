use Rattle.std.proofs.Common.{ap, ◌∙◌}
use Rattle.mt_queue.specs.declared.rule.PassView.{PassView}
use Rattle.mt_queue.proofs.SplitLaws.{hands_over, parts}
use Rattle.mt_queue.proofs.JoinLaws.{joins}
use Rattle.mt_queue.proofs.meeting.meet_on.Goals as goal

pub another-moved-requires-clause-rule : goal.another-moved-requires-clause-rule
another-moved-requires-clause-rule c = hands_over _ _ c.requires.receiver.may_pop c.requires.receiver.no_push

pub absorb-requires-clause-rule : goal.absorb-requires-clause-rule
absorb-requires-clause-rule c = joins _ _ _ _ c.requires.sender.may_push (ap (λ (v : PassView). v.pops) c.another-moved.ensures.rule.1 ∙ c.requires.receiver.may_pop)

pub another-requires-clause-rule : goal.another-requires-clause-rule
another-requires-clause-rule c =
    let same = c.learn_as.ensures.queue.1 ∙ c.absorb.ensures.rule in
    parts _ _ (ap (λ (v : PassView). v.pushes) same) (ap (λ (v : PassView). v.pops) same)
