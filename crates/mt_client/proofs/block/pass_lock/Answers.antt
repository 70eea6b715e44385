use Rattle.std.proofs.Common.{Err, [], ◌∷◌, ap, sym}
use Rattle.mt_client.proofs.OpeningLaws.{first_taken, needs_line}
use Rattle.mt_client.proofs.CallLaws.{line_text, handed_on, fault_as, fault_checked, passes_line, pass_unprinted, pass_fault_printing}
use Rattle.mt_client.proofs.block.pass_lock.Goals as goal

pub returns-in_err-next_text-clause-fault : goal.returns-in_err-next_text-clause-fault
returns-in_err-next_text-clause-fault g c = handed_on _ _ _ c.from_residual.ensures.1 (pass_unprinted (fault_as (needs_line (λ _ k. (_, _, k.3))) (λ b. b) c.in_err-next_text.ensures.fault))

pub returns-in_err-id-clause-fault : goal.returns-in_err-id-clause-fault
returns-in_err-id-clause-fault g c =
    handed_on _ _ _ c.from_residual-in_err-id.ensures.1
    (pass_unprinted (fault_checked c.in_ok-next_text.ensures.read.on.limit
    (λ e lines later k is. let no = rw c.line.ensures at (c.in_err-id.ensures.refused (ap Err e)) in no (k.0, k.1, k.2, ap (λ l. l ∷ []) (sym (first_taken later c.in_ok-next_text.ensures.read.came k.3 is).0)))
    (λ e. c.in_err-id.ensures.kind (ap Err e))))

pub returns-clause-passed : goal.returns-clause-passed
returns-clause-passed g c =
    passes_line c.in_ok-next_text.ensures.read (line_text _ _ c.line-2.ensures) c.in_ok-print_line.ensures.out (rw c.line.ensures at c.in_ok-id.ensures.lock)

pub returns-in_err-print_line-clause-fault : goal.returns-in_err-print_line-clause-fault
returns-in_err-print_line-clause-fault g c = handed_on _ _ _ c.from_residual-in_err-print_line.ensures.1 (pass_fault_printing c.in_ok-next_text.ensures.read (line_text _ _ c.line-2.ensures) c.in_err-print_line.ensures.part)
