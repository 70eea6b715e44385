use Rattle.mt_client.proofs.OpeningLaws.{needs_line, within_needs_room, within_needs_few, within_needs_rows}
use Rattle.mt_client.proofs.CallLaws.{handed_on, fault_as, fault_behind, fault_refused}
use Rattle.mt_client.proofs.parts.read_next.Goals as goal

pub returns-in_err-next_text-clause-fault : goal.returns-in_err-next_text-clause-fault
returns-in_err-next_text-clause-fault g c = handed_on _ _ _ c.from_residual.ensures.1 (fault_as (needs_line (λ _ k. (_, _, k.all))) (λ b. b) c.in_err-next_text.ensures.fault)

pub returns-then-heading-left-clause-fault : goal.returns-then-heading-left-clause-fault
returns-then-heading-left-clause-fault g c =
    fault_refused c.in_ok-next_text.ensures.read.on.limit
    (within_needs_room c.args.left c.in-Some.heading _ _ _ c.in_ok-next_text.ensures.read.came (rw c.line.ensures at c.in-Some.ensures.heading) c.in-Some.ensures.small c.if-heading-left.true)

pub returns-in_err-rows-clause-fault : goal.returns-in_err-rows-clause-fault
returns-in_err-rows-clause-fault g c =
    handed_on _ _ _ c.from_residual-in_err-rows.ensures.1
    (fault_behind c.in_ok-next_text.ensures.read.on (within_needs_rows c.args.left c.in-Some.heading _ _ _ c.in_ok-next_text.ensures.read.came (rw c.line.ensures at c.in-Some.ensures.heading) c.in-Some.ensures.small) (λ b. b) c.in_err-rows.ensures.fault)

pub returns-then-is_beyond-clause-fault : goal.returns-then-is_beyond-clause-fault
returns-then-is_beyond-clause-fault g c =
    fault_refused c.in_ok-next_text.ensures.read.on.limit
    (within_needs_few c.args.left c.in-Some.heading _ _ _ c.in_ok-next_text.ensures.read.came (rw c.line.ensures at c.in-Some.ensures.heading) c.in-Some.ensures.small c.if-is_beyond.ensures)
