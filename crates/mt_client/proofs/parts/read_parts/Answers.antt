use Rattle.mt_client.proofs.OpeningLaws.{parts_cut}
use Rattle.mt_client.proofs.CallLaws.{handed_on, fault_behind}
use Rattle.mt_client.proofs.parts.read_parts.Goals as goal

pub returns-in_err-part-clause-fault : goal.returns-in_err-part-clause-fault
returns-in_err-part-clause-fault g c =
    handed_on _ _ _ c.from_residual.ensures.1
    (fault_behind c.parts.invariant.read.on (parts_cut c.args.count c.parts.left c.parts.parts.items _ _ c.parts.invariant.read.came c.parts.invariant.many c.parts-test.true c.parts.invariant.shown) (λ b. b) c.in_err-part.ensures.fault)
