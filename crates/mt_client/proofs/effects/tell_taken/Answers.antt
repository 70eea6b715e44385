use Rattle.std.proofs.Common.{rules, inl, inr}
use Rattle.mt_lines.specs.Reading.{last_line}
use Rattle.mt_client.specs.Reading.{known_lines}
use Rattle.mt_client.proofs.TellingLaws.{unsaid_cut}
use Rattle.mt_client.proofs.OpeningLaws.{needs_line, refused_some}
use Rattle.mt_client.proofs.CallLaws.{handed_on, fault_as, fault_behind, fault_refused, fault_printing}
use Rattle.mt_client.proofs.MissingLaws.{waiting_needs_count, waiting_needs_posts}
use Rattle.mt_client.proofs.effects.tell_taken.Goals as goal

pub returns-in_err-print_line-clause-broken : goal.returns-in_err-print_line-clause-broken
returns-in_err-print_line-clause-broken g c =
    handed_on _ _ _ c.from_residual-in_err-print_line.ensures.1
    (inl (unsaid_cut c.in_err-print_line.ensures.part.0 c.in_ok-next_text.ensures.read.came
    (rw c.line-then-is_refusal.ensures at c.in_err-print_line.ensures.part.1.cut)))

pub returns-in_err-tell_lines-clause-broken : goal.returns-in_err-tell_lines-clause-broken
returns-in_err-tell_lines-clause-broken g c = handed_on _ _ _ c.from_residual-in_err-tell_lines.ensures.1 (inr (last_line c.next_text.new.lines, known_lines c.next_text.new.lines, c.in_ok-next_text.ensures.read.came, c.in_err-tell_lines.ensures.broken))

pub returns-in_err-next_text-clause-fault : goal.returns-in_err-next_text-clause-fault
returns-in_err-next_text-clause-fault g c = handed_on _ _ _ c.from_residual.ensures.1 (fault_as (needs_line (refused_some (λ _ k. (_, _, k.all)))) (λ no. absurd no) c.in_err-next_text.ensures.fault)

pub returns-in_err-print_line-clause-fault : goal.returns-in_err-print_line-clause-fault
returns-in_err-print_line-clause-fault g c = handed_on _ _ _ c.from_residual-in_err-print_line.ensures.1 (fault_printing c.in_ok-next_text.ensures.read.on c.in_err-print_line.ensures.part.0 c.in_err-print_line.ensures.part.1.cause)

pub returns-in_default-clause-fault : goal.returns-in_default-clause-fault
returns-in_default-clause-fault g c =
    fault_refused c.in_ok-next_text.ensures.read.on.limit
    (waiting_needs_count c.args.mirrors.now.items (last_line c.next_text.new.lines) _ (known_lines c.next_text.new.lines) c.in_ok-next_text.ensures.read.came (search rules) (rw c.line-2.ensures at c.in_default.ensures))

pub returns-in_err-tell_lines-clause-fault : goal.returns-in_err-tell_lines-clause-fault
returns-in_err-tell_lines-clause-fault g c =
    handed_on _ _ _ c.from_residual-in_err-tell_lines.ensures.1
    (fault_behind c.in_ok-next_text.ensures.read.on
    (waiting_needs_posts c.in-Some.count c.args.mirrors.now.items (last_line c.next_text.new.lines) _ _ c.in_ok-next_text.ensures.read.came (search rules) (rw c.line-2.ensures at c.in-Some.ensures))
    (λ b. b) c.in_err-tell_lines.ensures.fault)
