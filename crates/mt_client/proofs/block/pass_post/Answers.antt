use Rattle.std.proofs.Common.{Err, ◌++◌, ap, refl, ◌∙◌}
use Rattle.mt_events.specs.Posts.{ended}
use Rattle.mt_lines.specs.Reading.{last_line}
use Rattle.mt_client.proofs.EndingLaws.{post_made, post_needs_count, post_needs_lines, post_needs_text}
use Rattle.mt_client.proofs.CallLaws.{out_as, appended_of, text_whole, handed_on, fault_as, fault_checked, fault_refused, fault_no_memory, pass_unprinted, pass_fault_printing}
use Rattle.mt_client.proofs.block.pass_post.Goals as goal

pub returns-in_default-clause-fault : goal.returns-in_default-clause-fault
returns-in_default-clause-fault g c = pass_unprinted (fault_refused refl (post_needs_count _ _ (rw c.line.ensures at c.in_default.ensures)))

pub returns-in_err-push_line-clause-fault : goal.returns-in_err-push_line-clause-fault
returns-in_err-push_line-clause-fault g c = handed_on _ _ _ c.from_residual.ensures.1 (pass_unprinted fault_no_memory)

pub returns-in_err-push_lines-clause-fault : goal.returns-in_err-push_lines-clause-fault
returns-in_err-push_lines-clause-fault g c =
    handed_on _ _ _ c.from_residual-in_err-push_lines.ensures.1
    (pass_unprinted (fault_as (post_needs_lines c.in-Some.count _ _ (rw c.line.ensures at c.in-Some.ensures)) (λ b. b) c.in_err-push_lines.ensures.fault))

pub returns-in_err-read_text-clause-fault : goal.returns-in_err-read_text-clause-fault
returns-in_err-read_text-clause-fault g c =
    let begun = c.in_ok-push_line.ensures ∙ (λ i. c.new-text.ensures.items i ++ ended (c.line-2.ensures i)) in
    handed_on _ _ _ c.from_residual-in_err-read_text.ensures.1
    (pass_unprinted (fault_checked c.in_ok-push_lines.ensures.text.2.on.limit
    (λ e. post_needs_text c.in-Some.count _ _ _ c.push_lines.new.text.items c.push_line.new.text.items (rw c.line.ensures at c.in-Some.ensures) begun (appended_of _ _ _ _ _ c.in_ok-push_lines.ensures.text)
    (λ post valid is. c.in_err-read_text.ensures.refused (ap Err e) post valid (c.deref.ensures.value ∙ is)))
    (λ e. c.in_err-read_text.ensures.kind (ap Err e))))

pub returns-in_err-print-clause-fault : goal.returns-in_err-print-clause-fault
returns-in_err-print-clause-fault g c =
    let begun = c.in_ok-push_line.ensures ∙ (λ i. c.new-text.ensures.items i ++ ended (c.line-2.ensures i)) in
    let h = c.in_ok-push_lines.ensures.text in
    handed_on _ _ _ c.from_residual-in_err-print.ensures.1 (pass_fault_printing h.2 (c.deref-2.ensures.value ∙ text_whole (last_line c.args.lines.now) h.0 c.push_lines.new.text.items c.push_line.new.text.items begun h.3) c.in_err-print.ensures.part)

pub returns-clause-passed : goal.returns-clause-passed
returns-clause-passed g c =
    let begun = c.in_ok-push_line.ensures ∙ (λ i. c.new-text.ensures.items i ++ ended (c.line-2.ensures i)) in
    let h = c.in_ok-push_lines.ensures.text in
    let made =
    post_made c.in-Some.count (last_line c.args.lines.now) h.0 c.push_lines.new.text.items c.push_line.new.text.items (rw c.line.ensures at c.in-Some.ensures) h.1 begun h.3 (c.in_ok-read_text.field-0, c.in_ok-read_text.ensures.valid, rw c.deref.ensures.value at c.in_ok-read_text.ensures.post) in
    record { others = h.0; is = made.0; read = h.2; out = out_as (c.deref-2.ensures.value ∙ made.1) c.in_ok-print.ensures.out }
