use Rattle.std.proofs.Common.{rules, ◌≡◌, subst, arith}
use Rattle.std.proofs.lemmas.Bool.{MatchBool-at_true}
use Rattle.std.proofs.lemmas.Result.{IfOk-weaker, IfErr-weaker}
use Rattle.mt_lines.specs.Reading.{last_line}
use Rattle.mt_client.specs.Reading.{known_lines}
use Rattle.mt_client.specs.Mirroring.{counted_line, HasRefused, HasFollowedSome, IsRefusedMidway}
use Rattle.mt_client.proofs.FollowLaws.{none_followed, followed_more, followed_all, follows}
use Rattle.mt_client.proofs.SeriesLaws.{came_at_first, following, up_to, posts_more, posts_cut, posts_to_end}
use Rattle.mt_client.proofs.CallLaws.{match_bool, read_still, reads_both, handed_on, fault_behind}
use Rattle.mt_client.proofs.mirror.follow_posts.Goals as goal

pub posts-init : goal.posts-init
posts-init g c = record { on = read_still _ c.requires.fresh; came = none_followed _ _; goes = came_at_first (up_to following (counted_line c.args.count) c.args.count) _ _ }

pub posts-preserved : goal.posts-preserved
posts-preserved g c = record {
  on = reads_both c.posts.invariant.on c.in_ok-follow_post.ensures.on;
  came = followed_more c.posts._post _ _ _ _ _ _ c.posts.invariant.came (MatchBool-at_true _ _ c.if-not-branch.false c.in_ok-follow_post.ensures.followed);
  goes = posts_more following (counted_line c.args.count) c.args.count c.posts._post _ _ _ _ _ _ c.posts-test.true c.posts.invariant.goes (c.in_ok-follow_post.ensures.unrefused (search rules)) (c.in_ok-follow_post.ensures.applied (search rules));
}

-- so many posts were applied, and the line behind them ends them, or refuses
pub returns-clause-followed : goal.returns-clause-followed
returns-clause-followed g c =
    let all : c.posts._post ≡ c.args.count = search rules in
    let before = known_lines c.args.lines.now in
    let middle = known_lines c.posts.lines in
    let after = known_lines c.read_end.new.lines in
    IfOk-weaker c.read_end.result _ _ (λ going e.
    let came = subst (λ n. HasFollowedSome n before middle c.args.mirror.now c.posts.mirror) all c.posts.invariant.came in
    let left : HasRefused (last_line c.read_end.new.lines) middle after → IsRefusedMidway c.args.count (last_line c.read_end.new.lines) before after c.args.mirror.now c.posts.mirror =
    λ r. record { taken = c.args.count; middle = middle; few = omega arith; some = came; refused = r } in
    match_bool going (followed_all c.args.count before middle after c.args.mirror.now c.posts.mirror came) left e) c.read_end.ensures.ended

pub returns-in_err-follow_post-clause-fault : goal.returns-in_err-follow_post-clause-fault
returns-in_err-follow_post-clause-fault g c =
    handed_on _ _ _ c.from_residual.ensures.1
    (fault_behind c.posts.invariant.on (posts_cut following (counted_line c.args.count) c.args.count c.posts._post _ _ _ _ (follows (counted_line c.args.count) c.args.count _) c.posts-test.true c.posts.invariant.goes) (λ b. b) c.in_err-follow_post.ensures.fault)

pub returns-clause-fault : goal.returns-clause-fault
returns-clause-fault g c =
    IfErr-weaker c.read_end.result _ _ (λ f q. fault_behind c.posts.invariant.on (posts_to_end following c.args.count c.posts._post _ _ _ _ (follows (counted_line c.args.count) c.args.count _) c.posts-test.false c.posts.invariant.goes) (λ b. b) q) c.read_end.ensures.fault
