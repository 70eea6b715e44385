-- Events that are done one after another.
use Rattle.std.proofs.Common.{◌≡◌, ◌≢◌, Bool, true, false, cond, List, [], ◌∷◌, ◌++◌, length, Ok, Err, refl, sym, ap, ◌∙◌, arith}
use Rattle.std.specs.Prelude.{Result, IfOk, IfErr, OnErr}
use Rattle.std.proofs.lemmas.Bool.Decides.{nat_tests}
use Rattle.mt_skel.specs.declared.fault.Fault.{Fault}
use Rattle.mt_skel.specs.declared.fault.Fault.TheVariants.{NoMemory}
use Rattle.mt_floor.specs.declared.event.Event.{Event}
use Rattle.mt_floor.specs.declared.event.Answer.{Answer}
use Rattle.mt_floor.specs.Schedule.{FloorView, floor_step, run, takes_memory, lacked, done_events, done_answers}
use Rattle.mt_floor.proofs.RunLaws.{run_state, run_told}

abbrev Ran : Type 0
Ran = FloorView × List (Result Answer Fault)

-- one event
one_done : (s now : FloorView) (e : Event) (a : Result Answer Fault) → IfOk a (λ x. floor_step s e ≡ (now, Ok x)) → IfErr a (λ f. f ≢ NoMemory → floor_step s e ≡ (now, Err f))
    → IfErr a (λ f. f ≡ NoMemory → takes_memory e ≡ true) → OnErr a (now ≡ s) → run s (cond (lacked e a) [] (e ∷ [])) ≡ (now, cond (lacked e a) [] (a ∷ []))
one_done s now e (Ok x) done refused memory still = λ k. ((done k).0, (done k).1 ∷ [])
one_done s now e (Err f) done refused memory still = by (lacked e (Err f)) refl
  where
    by : (b : Bool) → lacked e (Err f) ≡ b → run s (cond b [] (e ∷ [])) ≡ (now, cond b [] (Err f ∷ []))
    by true is = λ k. (sym still k, [])
    by false is =
        let other : f ≢ NoMemory = λ same. (let bad : true ≡ false = sym (memory same) ∙ ap (λ x. lacked e (Err x)) (sym same) ∙ is in cc) in
        let step = refused other in
        λ k. ((step k).0, (step k).1 ∷ [])

-- what is done of one event more
last_done : (es : List Event) (ans : List (Result Answer Fault)) (e : Event) (a : Result Answer Fault) → length ans ≡ length es
    → (done_events (es ++ e ∷ []) (ans ++ a ∷ []) ≡ done_events es ans ++ cond (lacked e a) [] (e ∷ [])) × (done_answers (es ++ e ∷ []) (ans ++ a ∷ []) ≡ done_answers es ans ++ cond (lacked e a) [] (a ∷ []))
last_done [] [] e a l = (refl, refl)
last_done [] (b ∷ ans) e a l = absurd (omega (arith, l))
last_done (x ∷ es) [] e a l = absurd (omega (arith, l))
last_done (x ∷ es) (b ∷ ans) e a l = let ih = last_done es ans e a (omega (arith, l)) in (grind (arith, nat_tests), grind (arith, nat_tests))

pub joined : (s now : FloorView) (xs ys : List Event) (told more : List (Result Answer Fault)) (mid : FloorView) → run s xs ≡ (mid, told) → run mid ys ≡ (now, more) → run s (xs ++ ys) ≡ (now, told ++ more)
joined s now xs ys told more mid e f =
    (λ k. (run_state s xs ys k, run_told s xs ys k)) ∙ ap (λ (x : Ran). ((run x.0 ys).0, x.1 ++ (run x.0 ys).1)) e ∙ ap (λ (x : Ran). (x.0, told ++ x.1)) f

-- one event more
pub run_next : (s mid now : FloorView) (es : List Event) (ans ans' : List (Result Answer Fault)) (e : Event) (a : Result Answer Fault) → length ans ≡ length es
    → run s (done_events es ans) ≡ (mid, done_answers es ans) → ans' ≡ ans ++ a ∷ [] → IfOk a (λ x. floor_step mid e ≡ (now, Ok x)) → IfErr a (λ f. f ≢ NoMemory → floor_step mid e ≡ (now, Err f))
    → IfErr a (λ f. f ≡ NoMemory → takes_memory e ≡ true) → OnErr a (now ≡ mid) → run s (done_events (es ++ e ∷ []) ans') ≡ (now, done_answers (es ++ e ∷ []) ans')
run_next s mid now es ans ans' e a l before new done refused memory still =
    ap (λ r. run s (done_events (es ++ e ∷ []) r)) new
    ∙ ap (run s) (last_done es ans e a l).0
    ∙ joined s now (done_events es ans) (cond (lacked e a) [] (e ∷ [])) (done_answers es ans) (cond (lacked e a) [] (a ∷ [])) mid before (one_done mid now e a done refused memory still)
    ∙ ap (λ r. (now, r)) (sym (last_done es ans e a l).1 ∙ ap (done_answers (es ++ e ∷ [])) (sym new))
