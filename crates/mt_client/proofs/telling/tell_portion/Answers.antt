use Rattle.std.proofs.Common.{rules, Ok, refl, ap, ◌∙◌, inl, inr}
use Rattle.std.proofs.KnownBytes.{Keeps-refl}
use Rattle.std.proofs.lemmas.Bool.{MatchBool-at_false}
use Rattle.mt_lines.specs.Reading.{last_line}
use Rattle.mt_client.specs.Reading.{known_lines}
use Rattle.mt_client.specs.declared.fault.ClientFault.TheVariants.{Output}
use Rattle.mt_client.proofs.TellingLaws.{unsaid_of, so_none, up_to_none, unsaid_cut}
use Rattle.mt_client.proofs.CallLaws.{out_as, handed_on, breaks_later, fault_as, fault_no_memory, fault_printing, refused_of, as_fault}
use Rattle.mt_client.proofs.RelayLaws.{same_fault}
use Rattle.mt_client.proofs.telling.tell_portion.Goals as goal

pub returns-in_err-follow-clause-broken : goal.returns-in_err-follow-clause-broken
returns-in_err-follow-clause-broken g c = handed_on _ _ _ c.from_residual.ensures.1 (up_to_none (Keeps-refl _))

pub returns-in_err-send_request-clause-broken : goal.returns-in_err-send_request-clause-broken
returns-in_err-send_request-clause-broken g c =
    let f = c.in_err-send_request.field-0.0 in
    handed_on _ _ _ c.from_residual-in_err-send_request.ensures.1
    (up_to_none
    (unsaid_of f _ _ _ c.in_err-send_request.ensures.fault.broken (λ other. c.in_err-send_request.ensures.kept (λ e. other (same_fault _ f Output refl e)))))

pub returns-then-not-branch-clause-told : goal.returns-then-not-branch-clause-told
returns-then-not-branch-clause-told g c =
    let p = c.in_ok-send_request.ensures.passed (ap Ok c.if-not-branch.true) in
    ((last_line c.send_request.new.lines, g.O.Output.contents c.args.out.now, record { made = c.args.mirrors.now.items; middle = known_lines c.args.lines.now; so = so_none; refused = refused_of p }, p.out.went), refl)

pub returns-then-not-branch-clause-asked : goal.returns-then-not-branch-clause-asked
returns-then-not-branch-clause-asked g c = inr (c.send_request.ensures.cause (search rules))

pub returns-then-branch-clause-asked : goal.returns-then-branch-clause-asked
returns-then-branch-clause-asked g c = inl (out_as (c.as_slice.ensures.value ∙ c.in_ok-follow.ensures) (c.send_request.ensures.sent (search rules))).went

pub returns-clause-asked : goal.returns-clause-asked
returns-clause-asked g c = inl (out_as (c.as_slice.ensures.value ∙ c.in_ok-follow.ensures) (c.send_request.ensures.sent (search rules))).went

pub returns-clause-told : goal.returns-clause-told
returns-clause-told g c =
    let told = MatchBool-at_false _ _ c.if-branch.false (rw (c.send_request.ensures.unread (search rules), c.send_request.ensures.unprinted (search rules)) at c.in_ok-tell_posts.ensures.told) in
    ((last_line c.tell_posts.new.lines, g.O.Output.contents c.tell_posts.new.out, told.0, rw c.line.ensures at c.in_ok-print_line.ensures.out.went), told.1)

pub returns-in_err-print_line-clause-broken : goal.returns-in_err-print_line-clause-broken
returns-in_err-print_line-clause-broken g c =
    let told = MatchBool-at_false _ _ c.if-branch.false (rw (c.send_request.ensures.unread (search rules), c.send_request.ensures.unprinted (search rules)) at c.in_ok-tell_posts.ensures.told) in
    let part = c.in_err-print_line.ensures.part in
    handed_on _ _ _ c.from_residual-in_err-print_line.ensures.1
    (record { made = told.0.made; middle = told.0.middle; between = g.O.Output.contents c.tell_posts.new.out; so = told.0.so; stopped = inl (unsaid_cut part.0 told.0.refused.read (rw c.line.ensures at part.1.cut)) })

pub returns-then-branch-clause-applied : goal.returns-then-branch-clause-applied
returns-then-branch-clause-applied g c is = rw (c.send_request.ensures.unread (search rules)) at (c.in_ok-tell_posts.ensures.applied (ap Ok c.if-branch.true))

pub returns-in_err-follow-clause-fault : goal.returns-in_err-follow-clause-fault
returns-in_err-follow-clause-fault g c = handed_on _ _ _ c.from_residual.ensures.1 (fault_no_memory)

pub returns-in_err-send_request-clause-fault : goal.returns-in_err-send_request-clause-fault
returns-in_err-send_request-clause-fault g c = handed_on _ _ _ c.from_residual-in_err-send_request.ensures.1 (fault_as (λ none v. inl (c.send_request.ensures.cause (search rules) v)) (λ b. b) (as_fault c.in_err-send_request.ensures.fault))

pub returns-in_err-tell_posts-clause-fault : goal.returns-in_err-tell_posts-clause-fault
returns-in_err-tell_posts-clause-fault g c =
    handed_on _ _ _ c.from_residual-in_err-tell_posts.ensures.1 (fault_as (λ none v. inr none) (λ b. b) (rw (c.send_request.ensures.unread (search rules), c.send_request.ensures.unprinted (search rules)) at c.in_err-tell_posts.ensures.fault))

pub returns-in_err-print_line-clause-fault : goal.returns-in_err-print_line-clause-fault
returns-in_err-print_line-clause-fault g c =
    handed_on _ _ _ c.from_residual-in_err-print_line.ensures.1
    (fault_printing (rw (c.send_request.ensures.unread (search rules)) at c.in_ok-tell_posts.ensures.on) c.in_err-print_line.ensures.part.0
    (breaks_later (rw (c.send_request.ensures.unprinted (search rules)) at c.in_ok-tell_posts.ensures.prints) c.in_err-print_line.ensures.part.1.cause))
