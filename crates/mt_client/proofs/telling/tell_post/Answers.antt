use Rattle.std.proofs.Common.{rules, Err, refl, ap, ◌∙◌}
use Rattle.mt_lines.specs.Reading.{last_line}
use Rattle.mt_client.specs.Reading.{known_lines}
use Rattle.mt_client.specs.declared.fault.ClientFault.TheVariants.{Output}
use Rattle.mt_client.proofs.FollowLaws.{such_needs_post, such_needs_such, only_applied}
use Rattle.mt_client.proofs.TellingLaws.{post_told, stopped_post}
use Rattle.mt_client.proofs.OpeningLaws.{needs_line, refused_some, no_refusal, unrefused_or}
use Rattle.mt_client.proofs.CallLaws.{handed_on, fault_as, fault_behind, fault_checked}
use Rattle.mt_client.proofs.RelayLaws.{same_fault}
use Rattle.mt_client.specs.Telling.{mirrors_with, is_due}
use Rattle.mt_client.proofs.telling.tell_post.Goals as goal

pub returns-in_err-tell_due-clause-broken : goal.returns-in_err-tell_due-clause-broken
returns-in_err-tell_due-clause-broken g c =
    let f = c.in_err-tell_due.field-0.0 in
    handed_on _ _ _ c.from_residual-in_err-tell_due.ensures.1 (stopped_post c.args.scope c.args.mirrors.now.items c.in_ok-next_text.ensures.read.came c.in_ok-post.ensures.posted c.in_ok-post.ensures.valid
    (λ other. c.in_err-tell_due.ensures.kept (λ e. other (same_fault _ f Output refl e)))
    (λ e. let k = c.in_err-tell_due.ensures.part (ap Err e) in (k.0, k.1.cut)))

pub returns-clause-told : goal.returns-clause-told
returns-clause-told g c =
    post_told c.args.scope c.args.mirrors.now.items _ c.in_ok-next_text.ensures.read.came c.in_ok-post.ensures.posted c.in_ok-post.ensures.valid
    c.in_ok-tell_due.ensures.due c.in_ok-tell_due.ensures.applied c.in_ok-tell_due.ensures.out.went

pub returns-clause-applied : goal.returns-clause-applied
returns-clause-applied g c is = only_applied mirrors_with (last_line c.next_text.new.lines) (known_lines c.args.lines.now) (known_lines c.next_text.new.lines) (known_lines c.read_posted.new.lines) c.in_ok-post.post c.args.mirrors.now.items c.tell_due.new.mirrors.items c.in_ok-next_text.ensures.read.came c.in_ok-post.ensures.only c.in_ok-tell_due.ensures.applied

pub returns-in_err-next_text-clause-fault : goal.returns-in_err-next_text-clause-fault
returns-in_err-next_text-clause-fault g c =
    handed_on _ _ _ c.from_residual.ensures.1 (fault_as (needs_line (refused_some (λ _ k. (_, _, k.all)))) (λ no. absurd no) c.in_err-next_text.ensures.fault)

pub returns-in_err-post-clause-fault : goal.returns-in_err-post-clause-fault
returns-in_err-post-clause-fault g c =
    handed_on _ _ _ c.from_residual-in_err-post.ensures.1
    (fault_behind c.in_ok-next_text.ensures.read.on
    (λ none. let came = c.in_ok-next_text.ensures.read.came in unrefused_or (no_refusal came (search rules)) (such_needs_post (is_due c.args.scope c.args.mirrors.now.items) _ _ _ came none)) (λ no. absurd no) c.in_err-post.ensures.fault)

pub returns-in_err-tell_due-clause-fault : goal.returns-in_err-tell_due-clause-fault
returns-in_err-tell_due-clause-fault g c =
    handed_on _ _ _ c.from_residual-in_err-tell_due.ensures.1
    (fault_checked (c.in_ok-post.ensures.on.limit ∙ c.in_ok-next_text.ensures.read.on.limit)
    (λ e.
    let came = c.in_ok-next_text.ensures.read.came in
    unrefused_or (no_refusal came (search rules)) (such_needs_such (is_due c.args.scope c.args.mirrors.now.items) _ _ _ _ c.in_ok-post.post came c.in_ok-post.ensures.only (c.in_err-tell_due.ensures.refused (ap Err e))))
    (λ e. (c.in_err-tell_due.ensures.part (ap Err e)).1.cause))
