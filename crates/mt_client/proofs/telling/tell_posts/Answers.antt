use Rattle.std.proofs.Common.{rules, ◌≡◌, Ok, ap, refl, arith, inl}
use Rattle.std.proofs.KnownBytes.{Keeps-refl}
use Rattle.std.proofs.lemmas.Bool.{MatchBool-at_true, MatchBool-at_false}
use Rattle.std.proofs.lemmas.Result.{IfOk-weaker, IfErr-weaker, on_ok_weaker, MatchResult-at_ok}
use Rattle.mt_client.proofs.TellingLaws.{unsaid_of, none_yet, some_more, portion_whole, all_few, up_to_some}
use Rattle.mt_client.proofs.SeriesLaws.{came_at_first, due_to, up_to, posts_more, posts_cut, posts_to_end}
use Rattle.mt_client.proofs.CallLaws.{match_bool, read_still, reads_both, writes_still, writes_both, handed_on, breaks_later, fault_behind}
use Rattle.mt_client.proofs.MissingLaws.{due_posts, posts_whole}
use Rattle.mt_client.proofs.RelayLaws.{unprinted}
use Rattle.mt_client.specs.Mirroring.{counted_line}
use Rattle.mt_client.proofs.telling.tell_posts.Goals as goal

pub posts-init : goal.posts-init
posts-init g c = record {
  on = read_still _ c.requires.fresh;
  prints = writes_still g.O.Output _;
  rising = c.requires.rising;
  goes = came_at_first (up_to (due_to c.args.scope) (counted_line c.args.count) c.args.count) c.args.mirrors.now.items _;
  told = none_yet;
}

pub returns-in_err-tell_post-clause-broken : goal.returns-in_err-tell_post-clause-broken
returns-in_err-tell_post-clause-broken g c = handed_on _ _ _ c.from_residual.ensures.1 (up_to_some (omega (arith, c.posts-test.true)) c.posts.invariant.told c.in_err-tell_post.ensures.broken)

pub returns-then-not-branch-clause-told : goal.returns-then-not-branch-clause-told
returns-then-not-branch-clause-told g c =
    (all_few (omega (arith, c.posts-test.true)) c.posts.invariant.told (MatchBool-at_false _ _ c.if-not-branch.true c.in_ok-tell_post.ensures.told), refl)

pub posts-preserved : goal.posts-preserved
posts-preserved g c = record {
  goes = posts_more (due_to c.args.scope) (counted_line c.args.count) c.args.count c.posts._post _ _ _ _ _ _ c.posts-test.true c.posts.invariant.goes (c.in_ok-tell_post.ensures.unrefused (ap Ok c.if-not-branch.false)) (c.in_ok-tell_post.ensures.applied (ap Ok c.if-not-branch.false));
  on = reads_both c.posts.invariant.on c.in_ok-tell_post.ensures.on;
  prints = writes_both c.posts.invariant.prints c.in_ok-tell_post.ensures.prints;
  rising = c.in_ok-tell_post.ensures.rising;
  told = some_more c.posts.invariant.told (MatchBool-at_true _ _ c.if-not-branch.false c.in_ok-tell_post.ensures.told);
}

pub returns-in_err-tell_post-clause-fault : goal.returns-in_err-tell_post-clause-fault
returns-in_err-tell_post-clause-fault g c =
    handed_on _ _ _ c.from_residual.ensures.1
    (fault_behind c.posts.invariant.on (posts_cut (due_to c.args.scope) (counted_line c.args.count) c.args.count c.posts._post _ _ _ _ (due_posts c.args.count c.args.scope _) c.posts-test.true c.posts.invariant.goes) (breaks_later c.posts.invariant.prints) c.in_err-tell_post.ensures.fault)

pub returns : goal.returns
returns g c =
    let h = c.posts.invariant in
    let all : c.posts._post ≡ c.args.count = search rules in
    record {
      told = IfOk-weaker c.read_end.result _ _ (λ going e. match_bool going (portion_whole all h.told) (λ r. (all_few (omega (arith, all)) h.told (Keeps-refl _, r), refl)) e) c.read_end.ensures.ended;
      rising = search rules;
      broken = IfErr-weaker c.read_end.result _ _ (λ f q. up_to_some (omega (arith, all)) h.told (inl (unsaid_of f _ _ _ (unprinted f _ _ _ q.cause (Keeps-refl _)) (λ other. Keeps-refl _)))) c.read_end.ensures.fault;
      applied = λ is. posts_whole c.args.count c.posts._post c.args.scope _ _ _ _ _ c.posts-test.false h.goes (c.read_end.ensures.unrefused is) (MatchResult-at_ok _ _ _ is c.read_end.ensures.ended);
      on = on_ok_weaker c.read_end.result (λ q. reads_both h.on q) c.read_end.ensures.on;
      prints = search rules;
      fault = IfErr-weaker c.read_end.result _ _ (λ f q. fault_behind h.on (posts_to_end (due_to c.args.scope) c.args.count c.posts._post _ _ _ _ (due_posts c.args.count c.args.scope _) c.posts-test.false h.goes) (λ no. absurd no) q) c.read_end.ensures.fault;
    }
