use Rattle.mt_client.proofs.EndingLaws.{headed_whole, headed_needs_verdict, headed_needs_count, headed_needs_behind}
use Rattle.mt_client.proofs.OpeningLaws.{needs_line}
use Rattle.mt_client.proofs.CallLaws.{out_as, line_text, handed_on, fault_as, fault_refused, passes_line, passes_both, pass_unprinted, pass_fault_behind, pass_fault_printing}
use Rattle.std.proofs.Common.{refl}
use Rattle.mt_client.proofs.relay.pass_headed.Goals as goal

pub returns-in_err-next_text-clause-fault : goal.returns-in_err-next_text-clause-fault
returns-in_err-next_text-clause-fault g c = handed_on _ _ _ c.from_residual.ensures.1 (pass_unprinted (fault_as (needs_line (λ _ k. (_, _, k.1.all))) (λ b. b) c.in_err-next_text.ensures.fault))

pub returns-in_default-clause-fault : goal.returns-in_default-clause-fault
returns-in_default-clause-fault g c = pass_unprinted (fault_refused c.in_ok-next_text.ensures.read.on.limit (headed_needs_verdict c.args.form _ _ _ c.in_ok-next_text.ensures.read.came (rw c.line.ensures at c.in_default.ensures)))

pub returns-in_default-lines_behind-clause-fault : goal.returns-in_default-lines_behind-clause-fault
returns-in_default-lines_behind-clause-fault g c =
    pass_unprinted (fault_refused c.in_ok-next_text.ensures.read.on.limit
    (headed_needs_count c.args.form c.in-Some.told _ _ _ c.in_ok-next_text.ensures.read.came (rw c.line.ensures at c.in-Some.ensures) (rw c.line-2.ensures at c.in_default-lines_behind.ensures)))

pub returns-in_err-print_line-clause-fault : goal.returns-in_err-print_line-clause-fault
returns-in_err-print_line-clause-fault g c =
    handed_on _ _ _ c.from_residual-in_err-print_line.ensures.1 (pass_fault_printing c.in_ok-next_text.ensures.read (line_text _ _ c.line-3.ensures) c.in_err-print_line.ensures.part)

pub returns-in_err-pass_behind-clause-fault : goal.returns-in_err-pass_behind-clause-fault
returns-in_err-pass_behind-clause-fault g c =
    handed_on _ _ _ c.from_residual-in_err-pass_behind.ensures.1
    (pass_fault_behind c.in_ok-next_text.ensures.read (out_as (line_text _ _ c.line-3.ensures) c.in_ok-print_line.ensures.out)
    (headed_needs_behind c.args.form c.in-Some.told c.in-Some-lines_behind.count _ _ _ c.in_ok-next_text.ensures.read.came (rw c.line.ensures at c.in-Some.ensures) (rw c.line-2.ensures at c.in-Some-lines_behind.ensures))
    c.in_err-pass_behind.ensures.fault)

pub returns-clause-passed : goal.returns-clause-passed
returns-clause-passed g c =
    passes_both (headed_whole c.args.form c.in-Some.told c.in-Some-lines_behind.count _ (rw c.line.ensures at c.in-Some.ensures) (rw c.line-2.ensures at c.in-Some-lines_behind.ensures))
    (passes_line c.in_ok-next_text.ensures.read (line_text _ _ c.line-3.ensures) c.in_ok-print_line.ensures.out refl) c.in_ok-pass_behind.ensures.passed
