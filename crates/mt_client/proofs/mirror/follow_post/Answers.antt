use Rattle.std.proofs.Common.{rules, Err, ap, ◌∙◌}
use Rattle.mt_lines.specs.Reading.{last_line}
use Rattle.mt_events.specs.Mirrors.{mirrored}
use Rattle.mt_client.specs.Mirroring.{may_come}
use Rattle.mt_client.specs.Reading.{known_lines}
use Rattle.mt_client.proofs.FollowLaws.{followed_by_post, such_needs_post, such_needs_such, only_applied}
use Rattle.mt_client.proofs.OpeningLaws.{needs_line, refused_some, no_refusal, unrefused_or}
use Rattle.mt_client.proofs.CallLaws.{handed_on, fault_as, fault_behind, fault_checked}
use Rattle.mt_client.proofs.mirror.follow_post.Goals as goal

pub returns-clause-followed : goal.returns-clause-followed
returns-clause-followed g c = followed_by_post _ c.in_ok-post.post _ _ _ _ _ c.in_ok-next_text.ensures.read.came c.in_ok-post.ensures.posted c.in_ok-post.ensures.valid c.in_ok-apply_next.ensures.applied

pub returns-clause-applied : goal.returns-clause-applied
returns-clause-applied g c is =
    only_applied mirrored (last_line c.next_text.new.lines) (known_lines c.args.lines.now) (known_lines c.next_text.new.lines) (known_lines c.read_posted.new.lines) c.in_ok-post.post c.args.mirror.now c.apply_next.new.mirror c.in_ok-next_text.ensures.read.came c.in_ok-post.ensures.only c.in_ok-apply_next.ensures.applied.1

pub returns-in_err-next_text-clause-fault : goal.returns-in_err-next_text-clause-fault
returns-in_err-next_text-clause-fault g c = handed_on _ _ _ c.from_residual.ensures.1 (fault_as (needs_line (refused_some (λ _ k. (_, _, k.all)))) (λ b. b) c.in_err-next_text.ensures.fault)

pub returns-in_err-post-clause-fault : goal.returns-in_err-post-clause-fault
returns-in_err-post-clause-fault g c =
    handed_on _ _ _ c.from_residual-in_err-post.ensures.1
    (fault_behind c.in_ok-next_text.ensures.read.on
    (λ none. let came = c.in_ok-next_text.ensures.read.came in unrefused_or (no_refusal came (search rules)) (such_needs_post (may_come c.args.mirror.now) _ _ _ came none)) (λ b. b) c.in_err-post.ensures.fault)

pub returns-in_err-apply_next-clause-fault : goal.returns-in_err-apply_next-clause-fault
returns-in_err-apply_next-clause-fault g c =
    handed_on _ _ _ c.from_residual-in_err-apply_next.ensures.1
    (fault_checked (c.in_ok-post.ensures.on.limit ∙ c.in_ok-next_text.ensures.read.on.limit)
    (λ e. let came = c.in_ok-next_text.ensures.read.came in unrefused_or (no_refusal came (search rules)) (such_needs_such (may_come c.args.mirror.now) _ _ _ _ c.in_ok-post.post came c.in_ok-post.ensures.only (c.in_err-apply_next.ensures.refused (ap Err e)))) (λ e. c.in_err-apply_next.ensures.kind (ap Err e)))
