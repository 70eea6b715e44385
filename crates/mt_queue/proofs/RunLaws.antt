-- Runs of posts: their beginnings, and one post more.
use Rattle.std.proofs.Common.{◌≡◌, ℕ, zero, suc, ◌+◌, IsTrue, List, [], ◌∷◌, ◌++◌, length, take, Some, slice_get, refl, ap, subst}
use Rattle.mt_events.specs.Posts.{PostView}
use Rattle.mt_events.specs.declared.opening.Opening.{Opening}
use Rattle.mt_events.specs.Following.{IsRun, names_space, start_of, posts_in}

-- a beginning of a run is a run
get_front : (xs ys : List PostView) (k : ℕ) (p : PostView) → slice_get xs k ≡ Some p → (slice_get (xs ++ ys) k ≡ Some p) × (take k (xs ++ ys) ≡ take k xs)
get_front [] ys k p e = absurd cc
get_front (x ∷ xs) ys zero p e = (e, refl)
get_front (x ∷ xs) ys (suc k) p e = let r = get_front xs ys k p e in (r.0, ap (λ l. x ∷ l) r.1)

pub run_front : (o : Opening) (xs ys : List PostView) → IsRun o (xs ++ ys) → IsRun o xs
run_front o xs ys run = record {
  each = λ k p e. let r = get_front xs ys k p e in let h = run.each k p r.0 in rw r.1 at h;
}

pub run_none : (o : Opening) → IsRun o []
run_none o = record { each = λ k p e. absurd cc }

-- the last one, or one before it
last_or_before : (xs : List PostView) (x : PostView) (k : ℕ) (p : PostView) → slice_get (xs ++ x ∷ []) k ≡ Some p
    → (Q : ℕ → PostView → List PostView → Type 0) → Q (length xs) x xs → ((j : ℕ) (q : PostView) → slice_get xs j ≡ Some q → Q j q (take j xs)) → Q k p (take k (xs ++ x ∷ []))
last_or_before [] x zero p e Q mine others = let same : x ≡ p = cc in subst (λ q. Q 0 q []) same mine
last_or_before [] x (suc k) p e Q mine others = absurd cc
last_or_before (y ∷ xs) x zero p e Q mine others = others 0 p e
last_or_before (y ∷ xs) x (suc k) p e Q mine others = last_or_before xs x k p e (λ j q l. Q (suc j) q (y ∷ l)) mine (λ j q h. others (suc j) q h)

pub run_more : (o : Opening) (xs : List PostView) (x : PostView) → IsRun o xs → IsTrue (names_space o.scope x.space) → x.number ≡ start_of o x.space + posts_in x.space xs + 1 → IsRun o (xs ++ x ∷ [])
run_more o xs x run follow number = record {
  each = λ k p e. last_or_before xs x k p e (λ j q l. IsTrue (names_space o.scope q.space) × (q.number ≡ start_of o q.space + posts_in q.space l + 1)) (follow, number) (λ j q h. run.each j q h);
}
