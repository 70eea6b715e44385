use Rattle.std.proofs.Common.{refl}
use Rattle.mt_client.proofs.EndingLaws.{part_joined, part_needs_heading, part_needs_few, part_needs_rows}
use Rattle.mt_client.proofs.CallLaws.{nothing_read, out_as, line_text, handed_on, fault_refused, passes_seen, passes_both, pass_unprinted, pass_fault_behind, pass_fault_printing}
use Rattle.mt_client.proofs.block.pass_part.Goals as goal

pub returns-in_default-clause-fault : goal.returns-in_default-clause-fault
returns-in_default-clause-fault g c = pass_unprinted (fault_refused refl (part_needs_heading _ _ (rw c.line.ensures at c.in_default.ensures.heading)))

pub returns-then-is_beyond-clause-fault : goal.returns-then-is_beyond-clause-fault
returns-then-is_beyond-clause-fault g c = pass_unprinted (fault_refused refl (part_needs_few c.in-Some.heading _ _ (rw c.line.ensures at c.in-Some.ensures.heading) c.in-Some.ensures.small c.if-is_beyond.ensures))

pub returns-in_err-print_line-clause-fault : goal.returns-in_err-print_line-clause-fault
returns-in_err-print_line-clause-fault g c = handed_on _ _ _ c.from_residual.ensures.1 (pass_fault_printing (nothing_read _ c.requires.fresh) (line_text _ _ c.line-2.ensures) c.in_err-print_line.ensures.part)

pub returns-in_err-pass_rows-clause-fault : goal.returns-in_err-pass_rows-clause-fault
returns-in_err-pass_rows-clause-fault g c =
    handed_on _ _ _ c.from_residual-in_err-pass_rows.ensures.1
    (pass_fault_behind (nothing_read _ c.requires.fresh) (out_as (line_text _ _ c.line-2.ensures) c.in_ok-print_line.ensures.out)
    (part_needs_rows c.in-Some.heading _ _ (rw c.line.ensures at c.in-Some.ensures.heading) c.in-Some.ensures.small) c.in_err-pass_rows.ensures.fault)

pub returns-clause-passed : goal.returns-clause-passed
returns-clause-passed g c =
    let small = c.in-Some.ensures.small in
    passes_both (part_joined c.in-Some.heading _ (rw c.line.ensures at c.in-Some.ensures.heading) (small.0, small.1, c.if-is_beyond.ensures)) (passes_seen _ c.requires.fresh (line_text _ _ c.line-2.ensures) c.in_ok-print_line.ensures.out) c.in_ok-pass_rows.ensures.passed
