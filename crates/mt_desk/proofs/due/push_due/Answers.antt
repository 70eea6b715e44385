use Rattle.std.proofs.Common.{sym, ap, ◌∙◌}
use Rattle.mt_desk.specs.Sending.{slot_follows}
use Rattle.mt_desk.proofs.SendingLaws.{nothing_due}
use Rattle.mt_desk.proofs.due.push_due.Goals as goal

pub returns-else-follows-clause-due : goal.returns-else-follows-clause-due
returns-else-follows-clause-due c =
    nothing_due _ _ _ _ _ c.requires c.index-slots-place.is (ap (λ p. slot_follows p c.index-slots-place.result) (sym c.deref.ensures) ∙ sym c.follows.ensures ∙ c.if-follows.false)
