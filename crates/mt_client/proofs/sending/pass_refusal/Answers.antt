use Rattle.std.proofs.Common.{rules}
use Rattle.std.proofs.lemmas.Result.{IfErr-weaker}
use Rattle.mt_client.proofs.OpeningLaws.{needs_line, no_refusal}
use Rattle.mt_client.proofs.CallLaws.{line_text, handed_on, fault_as, fault_refused, pass_unprinted, pass_fault_printing}
use Rattle.mt_client.proofs.sending.pass_refusal.Goals as goal

pub returns-in_err-next_text-clause-fault : goal.returns-in_err-next_text-clause-fault
returns-in_err-next_text-clause-fault g c = handed_on _ _ _ c.from_residual.ensures.1 (pass_unprinted (fault_as (needs_line (λ _ r. (_, _, r.2))) (λ b. b) c.in_err-next_text.ensures.fault))

pub returns-then-not-is_refusal-clause-fault : goal.returns-then-not-is_refusal-clause-fault
returns-then-not-is_refusal-clause-fault g c = pass_unprinted (fault_refused c.in_ok-next_text.ensures.read.on.limit (no_refusal c.in_ok-next_text.ensures.read.came (search rules)))

pub returns-clause-fault : goal.returns-clause-fault
returns-clause-fault g c = IfErr-weaker c.print_line.result _ _ (λ f part. pass_fault_printing c.in_ok-next_text.ensures.read (line_text _ _ c.line-2.ensures) part) c.print_line.ensures.part
