use Rattle.std.proofs.Common.{rules, refl, ◌∙◌, inl, inr}
use Rattle.std.proofs.KnownBytes.{Keeps-refl}
use Rattle.mt_client.proofs.EndingLaws.{refused_passed}
use Rattle.mt_client.proofs.CallLaws.{out_as, handed_on, no_memory≢output, passes_passed, refused_of}
use Rattle.mt_client.proofs.RelayLaws.{on_ok, same_fault, unprinted}
use Rattle.std.proofs.lemmas.Result.{IfOk-weaker, IfErr-at_err}
use Rattle.mt_client.proofs.ask.ask_line.Goals as goal

pub returns-then-not-branch-clause-answer : goal.returns-then-not-branch-clause-answer
returns-then-not-branch-clause-answer g c = let p = c.send_request.ensures.passed (search rules) in refused_passed _ _ _ _ _ _ (refused_of p) p.out.went

pub returns-in_err-send_request-clause-connection : goal.returns-in_err-send_request-clause-connection
returns-in_err-send_request-clause-connection g c is u v = inl (c.send_request.ensures.cause (search rules) v, c.in_err-send_request.ensures.fault.cut (same_fault _ _ _ c.from_residual-in_err-send_request.ensures.1 is) u)

pub returns-clause-answer : goal.returns-clause-answer
returns-clause-answer g c =
    rw (c.send_request.ensures.unread (search rules), c.send_request.ensures.unprinted (search rules), c.form_of.ensures) at
    (IfOk-weaker c.pass_answer.result _ _ (λ told p. passes_passed p) c.pass_answer.ensures.passed)

pub returns-in_err-request-clause-broken : goal.returns-in_err-request-clause-broken
returns-in_err-request-clause-broken g c = handed_on _ _ _ c.from_residual.ensures.1 (unprinted _ _ _ _ no_memory≢output (Keeps-refl _))

pub returns-clause-connection : goal.returns-clause-connection
returns-clause-connection g c is u v =
    let fault = rw (c.form_of.ensures, c.send_request.ensures.unread (search rules)) at (IfErr-at_err _ is c.pass_answer.ensures.fault) in
    inr (fault.cut refl u)

pub returns-then-not-branch-clause-asked : goal.returns-then-not-branch-clause-asked
returns-then-not-branch-clause-asked g c = inr (c.send_request.ensures.cause (search rules))

pub returns-clause-asked : goal.returns-clause-asked
returns-clause-asked g c =
    let sent = out_as (c.as_slice.ensures.value ∙ c.in_ok-request.ensures) (c.send_request.ensures.sent (search rules)) in
    on_ok c.pass_answer.result (inl sent.went)
