use Rattle.std.proofs.KnownBytes.{Keeps-refl}
use Rattle.std.proofs.Common.{◌∙◌, rules, inl, inr, subst}
use Rattle.std.proofs.lemmas.Result.{IfErr-weaker, on_ok_weaker}
use Rattle.mt_lines.specs.Reading.{last_line}
use Rattle.mt_client.specs.Reading.{known_lines, IsSentPart}
use Rattle.mt_client.proofs.CallLaws.{reads_both, writes_both, out_both, out_as, handed_on, no_memory≢output, fault_as, passes_passed, passes_read, refused_of, as_fault, effect_behind, first_asked, more_asked, asked_alone}
use Rattle.mt_client.proofs.MissingLaws.{missing_later}
use Rattle.mt_client.proofs.RelayLaws.{on_ok_at, unprinted, part_first, part_second, part_one}
use Rattle.mt_client.specs.Missing.{IsWaiting, IsMissing, IsMissingAnswer}
use Rattle.mt_client.specs.Awaited.{IsRefusedOr}
use Rattle.mt_client.proofs.effects.tell_answered.Goals as goal

pub returns-in_err-request-clause-broken : goal.returns-in_err-request-clause-broken
returns-in_err-request-clause-broken g c = handed_on _ _ _ c.from_residual.ensures.1 (inl (unprinted _ _ _ _ no_memory≢output (Keeps-refl _)))

pub returns-in_err-send_request-clause-part : goal.returns-in_err-send_request-clause-part
returns-in_err-send_request-clause-part g c = part_first _ _ _ _ (subst (λ text. IsSentPart text (g.W.Output.contents c.args.writer.now) (g.W.Output.contents c.send_request.new.writer)) (c.as_slice.ensures.value ∙ c.in_ok-request.ensures) c.send_request.ensures.part)

pub returns-in_err-send_request-clause-fault : goal.returns-in_err-send_request-clause-fault
returns-in_err-send_request-clause-fault g c =
    handed_on _ _ _ c.from_residual-in_err-send_request.ensures.1
    (fault_as (λ none v. inl (inr (c.send_request.ensures.cause (search rules) v, none))) (λ b. b) (as_fault c.in_err-send_request.ensures.fault))

pub returns-in_err-send_request-clause-broken : goal.returns-in_err-send_request-clause-broken
returns-in_err-send_request-clause-broken g c = handed_on _ _ _ c.from_residual-in_err-send_request.ensures.1 (inl c.in_err-send_request.ensures.fault.broken)

pub returns-then-not-branch-clause-part : goal.returns-then-not-branch-clause-part
returns-then-not-branch-clause-part g c = part_first _ _ _ _ (subst (λ text. IsSentPart text (g.W.Output.contents c.args.writer.now) (g.W.Output.contents c.send_request.new.writer)) (c.as_slice.ensures.value ∙ c.in_ok-request.ensures) c.send_request.ensures.part)

pub returns-then-not-branch-clause-refused : goal.returns-then-not-branch-clause-refused
returns-then-not-branch-clause-refused g c is = let p = c.send_request.ensures.passed (search rules) in inl (last_line c.send_request.new.lines, refused_of p, p.out.went)

pub returns-in_err-pass_answer-clause-part : goal.returns-in_err-pass_answer-clause-part
returns-in_err-pass_answer-clause-part g c =
    let sent = out_as (c.as_slice.ensures.value ∙ c.in_ok-request.ensures) (c.send_request.ensures.sent (search rules)) in
    part_one _ _ _ _ sent.went

pub returns-in_err-pass_answer-clause-fault : goal.returns-in_err-pass_answer-clause-fault
returns-in_err-pass_answer-clause-fault g c =
    handed_on _ _ _ c.from_residual-in_err-pass_answer.ensures.1
    (fault_as (λ none v. inl (inl none)) (λ b. b)
    (as_fault (rw (c.form_of.ensures, c.send_request.ensures.unread (search rules), c.send_request.ensures.unprinted (search rules)) at c.in_err-pass_answer.ensures.fault)))

pub returns-in_err-pass_answer-clause-broken : goal.returns-in_err-pass_answer-clause-broken
returns-in_err-pass_answer-clause-broken g c = handed_on _ _ _ c.from_residual-in_err-pass_answer.ensures.1 (inl (rw (c.send_request.ensures.unread (search rules), c.send_request.ensures.unprinted (search rules)) at c.in_err-pass_answer.ensures.fault.broken))

pub returns-then-not-branch-2-clause-part : goal.returns-then-not-branch-2-clause-part
returns-then-not-branch-2-clause-part g c =
    let sent = out_as (c.as_slice.ensures.value ∙ c.in_ok-request.ensures) (c.send_request.ensures.sent (search rules)) in
    part_one _ _ _ _ sent.went

pub returns-then-not-branch-2-clause-refused : goal.returns-then-not-branch-2-clause-refused
returns-then-not-branch-2-clause-refused g c is =
    inr (inl (rw (c.if-not-branch-2.true, c.form_of.ensures, c.send_request.ensures.unread (search rules), c.send_request.ensures.unprinted (search rules)) at (passes_passed c.in_ok-pass_answer.ensures.passed)))

pub returns-then-not-branch-clause-asked : goal.returns-then-not-branch-clause-asked
returns-then-not-branch-clause-asked g c is = inr (c.send_request.ensures.cause (search rules))

pub returns-then-not-branch-2-clause-asked : goal.returns-then-not-branch-2-clause-asked
returns-then-not-branch-2-clause-asked g c is = first_asked _ _ (inl (out_as (c.as_slice.ensures.value ∙ c.in_ok-request.ensures) (c.send_request.ensures.sent (search rules))))

pub returns : goal.returns
returns g c =
    let sent = out_as (c.as_slice.ensures.value ∙ c.in_ok-request.ensures) (c.send_request.ensures.sent (search rules)) in
    let passed = rw (c.if-not-branch-2.false, c.form_of.ensures, c.send_request.ensures.unread (search rules), c.send_request.ensures.unprinted (search rules)) at c.in_ok-pass_answer.ensures.passed in
    record {
      told = λ is. (known_lines c.pass_answer.new.lines, g.O.Output.contents c.pass_answer.new.out, passes_passed passed, c.tell_changes.ensures.told is);
      refused = λ is. inr (inr (known_lines c.pass_answer.new.lines, g.O.Output.contents c.pass_answer.new.out, passes_passed passed, c.tell_changes.ensures.refused is));
      broken = IfErr-weaker c.tell_changes.result _ _ (λ f q. inr (known_lines c.pass_answer.new.lines, g.O.Output.contents c.pass_answer.new.out, passes_passed passed, q)) c.tell_changes.ensures.broken;
      sent = λ is. out_both sent (c.tell_changes.ensures.sent is);
      asked = λ is. more_asked _ _ sent (asked_alone g.W.Output _ (on_ok_at c.tell_changes.result is c.tell_changes.ensures.asked));
      part = part_second _ _ _ _ _ sent.went c.tell_changes.ensures.part;
      on = on_ok_weaker c.tell_changes.result (λ q. reads_both passed.read.on q) c.tell_changes.ensures.on;
      prints = on_ok_weaker c.tell_changes.result (λ q. writes_both passed.out.on q) c.tell_changes.ensures.prints;
      fault = IfErr-weaker c.tell_changes.result _ _
          (λ f q.
          effect_behind (λ unsent. IsMissing unsent (IsRefusedOr (IsWaiting c.args.mirrors.now.items)) (known_lines c.pass_answer.new.lines)) (λ unsent. IsMissingAnswer unsent c.args.line.now c.args.mirrors.now.items (known_lines c.args.lines.now))
          passed.read.on sent.on passed.out.on (λ less more later m. inr (known_lines c.pass_answer.new.lines, passes_read passed, missing_later later m)) q)
          c.tell_changes.ensures.fault;
    }
