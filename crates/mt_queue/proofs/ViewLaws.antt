-- What the passes of a queue know, after one of them has changed, and after one more was made.
use Rattle.std.proofs.Common.{◌≡◌, ◌≢◌, ℕ, zero, suc, true, false, true≢false, List, [], ◌∷◌, ◌++◌, length, set, refl, sym, ap, ◌∙◌, subst, ⊎_elim, arith}
use mathlib.Core.Option.{some, some-ne-none}
use lib.ListN.{get_elem?}
use Rattle.crossbeam_queue.proofs.Lists.{at_set, at_snoc}
use Rattle.mt_events.specs.Posts.{PostView}
use Rattle.mt_queue.specs.declared.rule.PassView.{PassView}
use Rattle.mt_queue.specs.declared.rule.TaggedOpening.{TaggedOpening}
use Rattle.mt_queue.specs.Rule.{KnowsSent, KnowsTaken, Fits}

pub off : false ≡ true → ⊥
off e = true≢false (sym e)

abbrev pub Each : (ℕ → PassView → Type 0) → List PassView → Type 0
Each F views = (pass : ℕ) (v : PassView) → get_elem? views pass ≡ some v → F pass v

-- after a change of one view, each view fits
pub each_set : (F : ℕ → PassView → Type 0) (views : List PassView) (pass : ℕ) (w : PassView) → F pass w
    → ((j : ℕ) (u : PassView) → j ≢ pass → get_elem? views j ≡ some u → F j u) → Each F (set views pass w)
each_set F views pass w mine others j u e =
    ⊎_elim
    (λ (x : (j ≡ pass) × (w ≡ u)). subst (λ (y : ℕ × PassView). F y.0 y.1) (λ i. (sym x.0 i, x.1 i)) mine)
    (λ (x : (j ≢ pass) × (get_elem? views j ≡ some u)). others j u x.0 x.1)
    (at_set views pass j w u e)

-- a place past the end has no view
at_end : (l : List PassView) (a b : PassView) (j : ℕ) → get_elem? l j ≢ some b → get_elem? (l ++ a ∷ []) j ≡ some b → j ≡ length l
at_end [] a b zero n e = refl
at_end [] a b (suc j) n e = absurd (some-ne-none b (sym e))
at_end (x ∷ xs) a b zero n e = absurd (n e)
at_end (x ∷ xs) a b (suc j) n e = ap suc (at_end xs a b j n e)

-- a pass that may push, or do nothing
abbrev pub PushesOnly : ℕ → TaggedOpening → ℕ → List PostView → List PostView → ℕ → PassView → Type 0
PushesOnly writer o capacity sent taken pass v = (v.pushes ≡ true → KnowsSent writer o capacity sent taken pass v) × (v.pops ≡ true → ⊥)

-- where no pass may pop, a new one may
pub with_reader : (writer : ℕ) (o : TaggedOpening) (capacity : ℕ) (sent taken : List PostView) (views : List PassView) (reader : PassView) → reader.pushes ≡ false
    → KnowsTaken (length views) o sent taken (length views) reader → Each (PushesOnly writer o capacity sent taken) views → Each (Fits writer (length views) o capacity sent taken) (views ++ reader ∷ [])
with_reader writer o capacity sent taken views reader no_push knows old j u e =
    ⊎_elim (λ x. ((old j u x).0, λ k. absurd ((old j u x).1 k)))
    (λ (is : reader ≡ u). (
      (λ k. absurd (off (sym no_push ∙ ap (λ (y : PassView). y.pushes) is ∙ k))),
      λ k. (
        at_end views reader u j (λ x. (old j u x).1 k) e,
        ap (λ (y : PassView). y.heard) (sym is) ∙ knows.1,
        ap (λ (y : PassView). y.taken) (sym is) ∙ knows.2,
        omega (arith, ap (λ (y : PassView). y.told) is, knows.3),
      ),
    ))
    (at_snoc views reader u j e)
