use Rattle.std.proofs.Common.{rules, refl, inl, inr}
use Rattle.std.proofs.lemmas.Result.{IfErr-weaker}
use Rattle.mt_client.specs.declared.fault.ClientFault.TheVariants.{Output}
use Rattle.mt_client.proofs.TellingLaws.{unsaid_of}
use Rattle.mt_client.proofs.CallLaws.{handed_on, fault_as, as_fault}
use Rattle.mt_client.proofs.RelayLaws.{on_ok, same_fault}
use Rattle.mt_client.proofs.effects.tell_changes.Goals as goal

pub returns-in_err-send_request-clause-broken : goal.returns-in_err-send_request-clause-broken
returns-in_err-send_request-clause-broken g c =
    let f = c.in_err-send_request.field-0.0 in
    handed_on _ _ _ c.from_residual.ensures.1 (inl (unsaid_of f _ _ _ c.in_err-send_request.ensures.fault.broken (λ other. c.in_err-send_request.ensures.kept (λ e. other (same_fault _ f Output refl e)))))

pub returns-in_err-send_request-clause-fault : goal.returns-in_err-send_request-clause-fault
returns-in_err-send_request-clause-fault g c =
    handed_on _ _ _ c.from_residual.ensures.1
    (fault_as (λ none v. inr (c.send_request.ensures.cause (search rules) v, none)) (λ b. b) (as_fault c.in_err-send_request.ensures.fault))

pub returns-clause-broken : goal.returns-clause-broken
returns-clause-broken g c = rw (c.send_request.ensures.unread (search rules), c.send_request.ensures.unprinted (search rules)) at c.tell_taken.ensures.broken

pub returns-clause-fault : goal.returns-clause-fault
returns-clause-fault g c =
    IfErr-weaker c.tell_taken.result _ _ (λ f q. fault_as (λ none v. inl none) (λ b. b) q)
    (rw (c.send_request.ensures.unread (search rules), c.send_request.ensures.unprinted (search rules)) at c.tell_taken.ensures.fault)

pub returns-then-not-branch-clause-asked : goal.returns-then-not-branch-clause-asked
returns-then-not-branch-clause-asked g c = inr (c.send_request.ensures.cause (search rules))

pub returns-clause-asked : goal.returns-clause-asked
returns-clause-asked g c = let sent = c.send_request.ensures.sent (search rules) in on_ok c.tell_taken.result (inl sent.went)
