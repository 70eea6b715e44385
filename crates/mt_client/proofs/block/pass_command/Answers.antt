use Rattle.std.proofs.Common.{rules, refl}
use Rattle.mt_client.proofs.EndingLaws.{command_made, no_command}
use Rattle.mt_client.proofs.CallLaws.{nothing_read, line_text, handed_on, fault_refused, passes_seen, passes_as, pass_unprinted, pass_fault_printing}
use Rattle.mt_client.proofs.block.pass_command.Goals as goal

pub returns-then-not-has_command_verb-clause-fault : goal.returns-then-not-has_command_verb-clause-fault
returns-then-not-has_command_verb-clause-fault g c = pass_unprinted (fault_refused refl (no_command _ _ (search rules)))

pub returns-in_err-print_line-clause-fault : goal.returns-in_err-print_line-clause-fault
returns-in_err-print_line-clause-fault g c = handed_on _ _ _ c.from_residual.ensures.1 (pass_fault_printing (nothing_read _ c.requires.fresh) (line_text _ _ c.line-2.ensures) c.in_err-print_line.ensures.part)

pub returns-clause-passed : goal.returns-clause-passed
returns-clause-passed g c = passes_as (command_made _ (search rules)) (passes_seen _ c.requires.fresh (line_text _ _ c.line-2.ensures) c.in_ok-print_line.ensures.out)
