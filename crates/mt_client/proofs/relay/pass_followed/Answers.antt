use Rattle.std.proofs.Common.{rules, [], length, refl, ap, arith}
use Rattle.mt_client.specs.Reading.{AreSoMany}
use Rattle.mt_client.proofs.RelayLaws.{come_from, none_from}
use Rattle.mt_client.specs.Replies.{IsPostLines}
use Rattle.mt_client.proofs.EndingLaws.{group_only, posts_alike, posts_join, posts_ended, answer_posts, whole_posts, no_end_comes, answer_ending}
use Rattle.mt_client.proofs.OpeningLaws.{needs_line}
use Rattle.mt_client.proofs.SeriesLaws.{came_at_first, came_more, came_cut}
use Rattle.mt_client.proofs.CallLaws.{line_text, handed_on, passes_read, passes_nothing, passes_line, passes_both, passes_behind, pass_unprinted, pass_fault_behind, pass_fault_inner, pass_fault_printing_behind, pass_refused_behind}
use Rattle.mt_client.proofs.relay.pass_followed.Goals as goal

pub following-init : goal.following-init
following-init g c = record { goes = came_at_first answer_posts tt _; passed = passes_nothing g.O.Output _ _ _ c.requires.fresh ([], refl, tt, refl) }

pub returns-in_err-next_text-clause-fault : goal.returns-in_err-next_text-clause-fault
returns-in_err-next_text-clause-fault g c =
    let p = c.following.invariant.passed in
    handed_on _ _ _ c.from_residual.ensures.1
    (pass_fault_behind {inner = AreSoMany 1} p.read p.out
    (λ none.
    came_cut answer_posts c.following.taken tt tt _ _ whole_posts c.following.invariant.goes (λ ls later h. none ls later (ap length h.1.1))
    (λ g rest n made last is more ends. needs_line {kind = IsPostLines} (λ _ k. (_, _, k.all)) none g rest is))
    (pass_unprinted c.in_err-next_text.ensures.fault))

pub returns-then-not-is_ending-clause-fault : goal.returns-then-not-is_ending-clause-fault
returns-then-not-is_ending-clause-fault g c =
    let p = c.following.invariant.passed in
    pass_refused_behind p.read p.out c.in_ok-next_text.ensures.read.on.limit
    (answer_ending c.following.taken c.in-Some.told _ _ _ _ c.following.invariant.goes c.in_ok-next_text.ensures.read.came (rw c.line.ensures at c.in-Some.ensures) (search rules))

pub returns-in_err-print_line-clause-fault : goal.returns-in_err-print_line-clause-fault
returns-in_err-print_line-clause-fault g c =
    let p = c.following.invariant.passed in
    handed_on _ _ _ c.from_residual-in_err-print_line.ensures.1
    (pass_fault_printing_behind p.read p.out c.in_ok-next_text.ensures.read (line_text _ _ c.line-in-Some-2.ensures) c.in_err-print_line.ensures.part)

pub returns-in-Some-clause-passed : goal.returns-in-Some-clause-passed
returns-in-Some-clause-passed g c =
    passes_both (posts_ended c.following.taken c.in-Some.told _ c.following-test.true (rw c.line.ensures at c.in-Some.ensures) (search rules)) c.following.invariant.passed
    (passes_line c.in_ok-next_text.ensures.read (line_text _ _ c.line-in-Some-2.ensures) c.in_ok-print_line.ensures.out refl)

pub returns-in_err-pass_post-clause-fault : goal.returns-in_err-pass_post-clause-fault
returns-in_err-pass_post-clause-fault g c =
    let p = c.following.invariant.passed in
    handed_on _ _ _ c.from_residual-in_err-pass_post.ensures.1
    (pass_fault_behind {inner = IsPostLines} p.read p.out
    (λ none.
    came_cut answer_posts c.following.taken tt tt _ _ whole_posts c.following.invariant.goes (no_end_comes c.following.taken _ _ _ c.in_ok-next_text.ensures.read.came (rw c.line.ensures at c.in_default.ensures))
    (λ g later n made last is more ends. none g later is))
    (pass_fault_inner c.in_ok-next_text.ensures.read (none_from c.in_ok-next_text.ensures.read.came) c.in_err-pass_post.ensures.fault))

pub following-preserved : goal.following-preserved
following-preserved g c = record {
  goes =
      let came = c.in_ok-next_text.ensures.read.came in
      let h = passes_read c.in_ok-pass_post.ensures.passed in
      came_more answer_posts c.following.taken tt tt tt _ _ _ c.following.invariant.goes (no_end_comes c.following.taken _ _ _ came (rw c.line.ensures at c.in_default.ensures)) (λ g later is e. (refl, (group_only posts_alike h.0 _ _ h.1.0 (come_from came h.2) g later is e).1));
  passed = passes_both (posts_join c.following.taken c.in_ok-pass_post.field-0) c.following.invariant.passed (passes_behind c.in_ok-next_text.ensures.read c.in_ok-pass_post.ensures.passed);
}

pub returns-clause-fault : goal.returns-clause-fault
returns-clause-fault g c =
    let p = c.following.invariant.passed in
    pass_refused_behind p.read p.out refl
    (came_cut answer_posts c.following.taken tt tt _ _ whole_posts c.following.invariant.goes (λ ls later h e. let few = h.1.5 in omega (arith, few, c.following-test.false))
    (λ g rest n made last is more ends e. let few = ends.5 in omega (arith, few, more, c.following-test.false)))
