-- The posts of namespace 1, sent one after another, are a run.
use Rattle.std.proofs.Common.{◌≡◌, ℕ, ◌+◌, true, List, [], ◌∷◌, ◌++◌, length, eqb, cond, IsTrue, sym, ap, ◌∙◌, subst, arith, length-append}
use Rattle.std.proofs.lemmas.Bool.Decides.{nat_tests}
use Rattle.std.proofs.lemmas.List.Elements.{filter-append}
use Rattle.mt_events.specs.Posts.{PostView}
use Rattle.mt_events.specs.Following.{names_space, start_of, space_posts, posts_in, IsRun}
use Rattle.mt_queue.specs.Halves.{SenderView}
use Rattle.mt_queue.proofs.RunLaws.{run_more}
use Rattle.mt_examples.specs.Sending.{IsNext}

one_more : (n : ℕ) (posts : List PostView) (p : PostView) → p.space ≡ n → posts_in n (posts ++ p ∷ []) ≡ posts_in n posts + 1
one_more n posts p is =
    let on : eqb p.space n ≡ true = grind (arith, nat_tests) in
    ap length (filter-append (λ (q : PostView). eqb q.space n) posts (p ∷ [])) ∙ ap (λ b. length (space_posts n posts ++ cond b (p ∷ []) [])) on ∙ length-append (space_posts n posts) (p ∷ [])

-- the next post may be sent
pub may_send : (number : ℕ) (s : SenderView) (p : PostView) → IsNext number s → p.space ≡ 1 → p.number ≡ number → IsRun s.opening (s.sent ++ p ∷ [])
may_send number s p next space is =
    run_more s.opening s.sent p next.run (subst (λ (n : ℕ). IsTrue (names_space s.opening.scope n)) (sym space) next.from.follows)
    (subst (λ (n : ℕ). p.number ≡ start_of s.opening n + posts_in n s.sent + 1) (sym space) (omega (arith, next.from.start, next.number_is, is)))

-- and then the one after it is next
pub next_sent : (number : ℕ) (s later : SenderView) (p : PostView) → IsNext number s → p.space ≡ 1 → p.number ≡ number → later ≡ record s { sent = s.sent ++ p ∷ [] } → IsNext (number + 1) later
next_sent number s later p next space is then = subst (IsNext (number + 1)) (sym then) after
  where
    after : IsNext (number + 1) (record s { sent = s.sent ++ p ∷ [] })
    after = record {
      from = next.from;
      run = may_send number s p next space is;
      number_is = omega (arith, next.number_is, one_more 1 s.sent p space);
    }
