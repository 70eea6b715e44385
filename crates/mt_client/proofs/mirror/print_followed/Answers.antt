use Rattle.std.proofs.Common.{rules, arith, ap, ◌∙◌, inl, inr}
use Rattle.std.proofs.lemmas.Bool.{MatchBool-at_true, MatchBool-at_false}
use Rattle.mt_events.specs.Posts.{ended}
use Rattle.mt_client.specs.Reading.{known_lines}
use Rattle.mt_client.proofs.FollowLaws.{none_followed}
use Rattle.mt_client.proofs.CallLaws.{out_as, handed_on, fault_as, fault_no_memory, fault_printing, refused_of, as_fault}
use Rattle.mt_client.proofs.mirror.print_followed.Goals as goal

pub returns-in_err-follow-clause-fault : goal.returns-in_err-follow-clause-fault
returns-in_err-follow-clause-fault g c = handed_on _ _ _ c.from_residual.ensures.1 (fault_no_memory)

pub returns-in_err-send_request-clause-fault : goal.returns-in_err-send_request-clause-fault
returns-in_err-send_request-clause-fault g c = handed_on _ _ _ c.from_residual-in_err-send_request.ensures.1 (fault_as (λ none v. inl (c.send_request.ensures.cause (search rules) v)) (λ b. b) (as_fault c.in_err-send_request.ensures.fault))

pub returns-then-not-branch-clause-left : goal.returns-then-not-branch-clause-left
returns-then-not-branch-clause-left g c is =
    let m = c.args.mirror.now in
    (m, record { taken = 0; middle = known_lines c.args.lines.now; few = omega arith; some = none_followed _ m; refused = refused_of (c.send_request.ensures.passed (search rules)) })

pub returns-then-not-branch-clause-unsent : goal.returns-then-not-branch-clause-unsent
returns-then-not-branch-clause-unsent g c is v = inr (c.send_request.ensures.cause (search rules) v)

pub returns-in_err-follow_posts-clause-fault : goal.returns-in_err-follow_posts-clause-fault
returns-in_err-follow_posts-clause-fault g c =
    handed_on _ _ _ c.from_residual-in_err-follow_posts.ensures.1 (fault_as (λ none v. inr none) (λ no. absurd no) (rw (c.send_request.ensures.unread (search rules)) at c.in_err-follow_posts.ensures.fault))

pub returns-in_err-print_line-clause-fault : goal.returns-in_err-print_line-clause-fault
returns-in_err-print_line-clause-fault g c =
    handed_on _ _ _ c.from_residual-in_err-print_line.ensures.1
    (fault_printing (rw (c.send_request.ensures.unread (search rules)) at c.in_ok-follow_posts.ensures.on) c.in_err-print_line.ensures.part.0 (rw (c.send_request.ensures.unprinted (search rules)) at c.in_err-print_line.ensures.part.1.cause))

pub returns-then-not-branch-2-clause-left : goal.returns-then-not-branch-2-clause-left
returns-then-not-branch-2-clause-left g c is =
    let followed = rw (c.send_request.ensures.unread (search rules)) at c.in_ok-follow_posts.ensures.followed in
    (c.follow_posts.new.mirror, MatchBool-at_false _ _ c.if-not-branch-2.true followed)

pub returns-then-not-branch-2-clause-refused : goal.returns-then-not-branch-2-clause-refused
returns-then-not-branch-2-clause-refused g c is = out_as (ap ended c.line.ensures) (rw (c.send_request.ensures.unprinted (search rules)) at c.in_ok-print_line.ensures.out)

pub returns-then-not-branch-2-clause-unsent : goal.returns-then-not-branch-2-clause-unsent
returns-then-not-branch-2-clause-unsent g c is v = inl ((c.send_request.ensures.sent (search rules)).on.serves v)

pub returns-clause-followed : goal.returns-clause-followed
returns-clause-followed g c is =
    let followed = rw (c.send_request.ensures.unread (search rules)) at c.in_ok-follow_posts.ensures.followed in
    MatchBool-at_true _ _ c.if-not-branch-2.false followed

pub returns-then-not-branch-clause-asked : goal.returns-then-not-branch-clause-asked
returns-then-not-branch-clause-asked g c = inr (c.send_request.ensures.cause (search rules))

pub returns-then-not-branch-2-clause-asked : goal.returns-then-not-branch-2-clause-asked
returns-then-not-branch-2-clause-asked g c = inl (out_as (c.as_slice.ensures.value ∙ c.in_ok-follow.ensures) (c.send_request.ensures.sent (search rules))).went

pub returns-clause-asked : goal.returns-clause-asked
returns-clause-asked g c = inl (out_as (c.as_slice.ensures.value ∙ c.in_ok-follow.ensures) (c.send_request.ensures.sent (search rules))).went
