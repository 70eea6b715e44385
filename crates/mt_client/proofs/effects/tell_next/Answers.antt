use Rattle.std.proofs.Common.{Err, refl, ap, ◌∙◌}
use Rattle.mt_lines.specs.Reading.{last_line}
use Rattle.mt_events.specs.declared.opening.Scope.TheVariants.{All}
use Rattle.mt_client.specs.Reading.{known_lines}
use Rattle.mt_client.specs.declared.fault.ClientFault.TheVariants.{Output}
use Rattle.mt_client.proofs.FollowLaws.{such_needs_post, such_needs_such}
use Rattle.mt_client.proofs.TellingLaws.{stopped_post, one_told}
use Rattle.mt_client.proofs.EndingLaws.{post_needs_count, post_behind}
use Rattle.mt_client.proofs.OpeningLaws.{needs_line}
use Rattle.mt_client.proofs.CallLaws.{handed_on, fault_as, fault_behind, fault_checked, fault_refused}
use Rattle.mt_client.proofs.MissingLaws.{only_counted}
use Rattle.mt_client.proofs.RelayLaws.{same_fault}
use Rattle.mt_client.specs.Telling.{is_due}
use Rattle.mt_client.proofs.effects.tell_next.Goals as goal

pub returns-in_err-tell_due-clause-broken : goal.returns-in_err-tell_due-clause-broken
returns-in_err-tell_due-clause-broken g c =
    let f = c.in_err-tell_due.field-0.0 in
    handed_on _ _ _ c.from_residual-in_err-tell_due.ensures.1 (stopped_post All c.args.mirrors.now.items c.in_ok-next_text.ensures.read.came c.in_ok-post.ensures.posted c.in_ok-post.ensures.valid
    (λ other. c.in_err-tell_due.ensures.kept (λ e. other (same_fault _ f Output refl e)))
    (λ e. let k = c.in_err-tell_due.ensures.part (ap Err e) in (k.0, k.1.cut)))

pub returns-clause-told : goal.returns-clause-told
returns-clause-told g c =
    one_told c.in_ok-next_text.ensures.read.came (rw c.line.ensures at c.in-Some.ensures) c.in_ok-post.ensures.posted c.in_ok-post.ensures.valid
    c.in_ok-tell_due.ensures.due c.in_ok-tell_due.ensures.applied c.in_ok-tell_due.ensures.out.went

pub returns-clause-only : goal.returns-clause-only
returns-clause-only g c =
    only_counted c.in-Some.behind (last_line c.next_text.new.lines) (known_lines c.args.lines.now) (known_lines c.next_text.new.lines) (known_lines c.read_posted.new.lines) c.in_ok-post.post c.args.mirrors.now.items c.tell_due.new.mirrors.items
    c.in_ok-next_text.ensures.read.came (rw c.line.ensures at c.in-Some.ensures) c.in_ok-post.ensures.only c.in_ok-tell_due.ensures.applied

pub returns-in_err-next_text-clause-fault : goal.returns-in_err-next_text-clause-fault
returns-in_err-next_text-clause-fault g c = handed_on _ _ _ c.from_residual.ensures.1 (fault_as (needs_line (λ _ k. (_, _, k.all))) (λ no. absurd no) c.in_err-next_text.ensures.fault)

pub returns-in_default-clause-fault : goal.returns-in_default-clause-fault
returns-in_default-clause-fault g c =
    fault_refused c.in_ok-next_text.ensures.read.on.limit
    (
    such_needs_post (is_due All c.args.mirrors.now.items) (last_line c.next_text.new.lines) _ (known_lines c.next_text.new.lines) c.in_ok-next_text.ensures.read.came
    (post_behind _ _ (post_needs_count (last_line c.next_text.new.lines) (known_lines c.next_text.new.lines) (rw c.line.ensures at c.in_default.ensures))))

pub returns-in_err-post-clause-fault : goal.returns-in_err-post-clause-fault
returns-in_err-post-clause-fault g c =
    handed_on _ _ _ c.from_residual-in_err-post.ensures.1
    (fault_behind c.in_ok-next_text.ensures.read.on (such_needs_post (is_due All c.args.mirrors.now.items) (last_line c.next_text.new.lines) _ _ c.in_ok-next_text.ensures.read.came) (λ no. absurd no) c.in_err-post.ensures.fault)

pub returns-in_err-tell_due-clause-fault : goal.returns-in_err-tell_due-clause-fault
returns-in_err-tell_due-clause-fault g c =
    handed_on _ _ _ c.from_residual-in_err-tell_due.ensures.1
    (fault_checked (c.in_ok-post.ensures.on.limit ∙ c.in_ok-next_text.ensures.read.on.limit)
    (λ e. such_needs_such (is_due All c.args.mirrors.now.items) (last_line c.next_text.new.lines) _ _ _ c.in_ok-post.post c.in_ok-next_text.ensures.read.came c.in_ok-post.ensures.only (c.in_err-tell_due.ensures.refused (ap Err e)))
    (λ e. (c.in_err-tell_due.ensures.part (ap Err e)).1.cause))
