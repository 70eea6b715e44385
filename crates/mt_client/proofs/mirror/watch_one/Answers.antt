use Rattle.mt_client.proofs.OpeningLaws.{opening_needs_finding}
use Rattle.mt_client.proofs.CallLaws.{handed_on, ask_fault_of}
use Rattle.mt_client.proofs.mirror.watch_one.Goals as goal

pub returns-in_err-parts-clause-fault : goal.returns-in_err-parts-clause-fault
returns-in_err-parts-clause-fault g c =
    handed_on _ _ _ c.from_residual.ensures.1 (ask_fault_of (opening_needs_finding c.args.space _) c.in_err-parts.ensures.fault)
