-- Keys are given out once, and every watcher on a floor began with an event.
use Rattle.std.proofs.Common.{◌≡◌, inl, inr, ℕ, zero, suc, ◌+◌, ◌<◌, ◌≤◌, Bool, true, false, eqb, List, [], ◌∷◌, Some, slice_get, Ok, refl, sym, ap, ◌∙◌, arith, eqb-true}
use Rattle.std.specs.Prelude.{Result}
use Rattle.std.proofs.lemmas.Bool.Decides.{nat_tests}
use Rattle.mt_skel.specs.declared.fault.Fault.{Fault}
use Rattle.mt_skel.specs.Keyed.{row_at}
use Rattle.mt_events.specs.declared.opening.Scope.{Scope}
use Rattle.mt_events.specs.declared.opening.Scope.TheVariants.{One, All}
use Rattle.mt_events.specs.declared.opening.Opening.{Opening}
use Rattle.mt_floor.specs.declared.event.Event.{Event}
use Rattle.mt_floor.specs.declared.event.Answer.{Answer}
use Rattle.mt_floor.specs.declared.event.Answer.TheVariants.{Opened}
use Rattle.mt_floor.specs.Watcher.{Watcher, watcher_key}
use Rattle.mt_floor.specs.Schedule.{FloorView, empty_floor, floor_step, run}
use Rattle.mt_floor.specs.Headline.{answers, floor_after}
use Rattle.mt_floor.proofs.BeginLaws.{counts, begins, grows}
use Rattle.mt_floor.proofs.RunLaws.{ran, after_kept, start_held}
use Rattle.mt_floor.proofs.StandingLaws.{key_below, kept_of, stays, begins_well}
use Rattle.mt_floor.proofs.HeadLaws.{held_at, opening_told}
use Rattle.mt_skel.proofs.ElementLaws.{get_in}
use Rattle.mt_floor.specs.WellFormed.{IsFloor}

-- a key that is answered is the next one at that moment
answered : (s : FloorView) (es : List Event) (key : ℕ) (o : Opening) → IsFloor s → (n : ℕ) → slice_get (run s es).1 n ≡ Some (Ok (Opened key o)) → s.next_key ≤ key
answered s [] key o k n is = absurd (get_in [] n _ is)
answered s (e ∷ es) key o k zero is = let opened : (floor_step s e).1 ≡ Ok (Opened key o) = cc in omega (arith, (begins s e (kept_of k) key o opened).key_is)
answered s (e ∷ es) key o k (suc n) is = omega (arith, grows s e, answered (floor_step s e).0 es key o (stays s e k) n is)

-- so it is not answered again
once : (s : FloorView) (e : Event) (es : List Event) (key : ℕ) (o p : Opening) → IsFloor s → (floor_step s e).1 ≡ Ok (Opened key o) → (n : ℕ) → slice_get (run (floor_step s e).0 es).1 n ≡ Some (Ok (Opened key p)) → ⊥
once s e es key o p k opened n later = omega (arith, (begins s e (kept_of k) key o opened).held.old, answered (floor_step s e).0 es key p (stays s e k) n later)

same_place : (s : FloorView) (es : List Event) (key : ℕ) (o p : Opening) → IsFloor s → (i j : ℕ) → slice_get (run s es).1 i ≡ Some (Ok (Opened key o)) → slice_get (run s es).1 j ≡ Some (Ok (Opened key p)) → i ≡ j
same_place s [] key o p k i j a b = absurd (get_in [] i _ a)
same_place s (e ∷ es) key o p k zero zero a b = refl
same_place s (e ∷ es) key o p k zero (suc j) a b = let opened : (floor_step s e).1 ≡ Ok (Opened key o) = cc in absurd (once s e es key o p k opened j b)
same_place s (e ∷ es) key o p k (suc i) zero a b = let opened : (floor_step s e).1 ≡ Ok (Opened key p) = cc in absurd (once s e es key p o k opened i a)
same_place s (e ∷ es) key o p k (suc i) (suc j) a b = ap suc (same_place (floor_step s e).0 es key o p (stays s e k) i j a b)

pub keys_apart : (capacity : ℕ) (es : List Event) (i j key : ℕ) (o p : Opening) → slice_get (answers capacity es) i ≡ Some (Ok (Opened key o)) → slice_get (answers capacity es) j ≡ Some (Ok (Opened key p)) → i ≡ j
keys_apart capacity es i j key o p = same_place (empty_floor capacity) es key o p (begins_well capacity) i j

-- an answer that begins the watcher of a key
abbrev Given : List (Result Answer Fault) → ℕ → Type 0
Given told key = (at : ℕ) × (o : Opening) × (slice_get told at ≡ Some (Ok (Opened key o)))

later : (a : Result Answer Fault) (told : List (Result Answer Fault)) (key : ℕ) → Given told key → Given (a ∷ told) key
later a told key g = (suc g.0, g.1, g.2)

-- each key that was given out was answered
given : (s : FloorView) (es : List Event) (key : ℕ) → s.next_key ≤ key → key < (run s es).0.next_key → Given (run s es).1 key
given s [] key low high = absurd (omega (arith, low, high))
given s (e ∷ es) key low high =
    let a = floor_step s e in
    elim (counts s e) [
      | inl same ↦ later a.1 (run a.0 es).1 key (given a.0 es key (omega (arith, low, same)) high)
      | inr gives ↦ by (eqb s.next_key key) refl gives.opening gives.answer gives.next (λ l. given a.0 es key l high)
    ]
  where
    by : (b : Bool) → eqb s.next_key key ≡ b → (o : Opening) → (floor_step s e).1 ≡ Ok (Opened s.next_key o) → (floor_step s e).0.next_key ≡ s.next_key + 1
        → ((floor_step s e).0.next_key ≤ key → Given (run (floor_step s e).0 es).1 key) → Given (run s (e ∷ es)).1 key
    by true q o answer next more = (0, o, ap (λ (x : Result Answer Fault). Some x) (answer ∙ ap (λ k. Ok (Opened k o)) (eqb-true s.next_key key q)))
    by false q o answer next more = later (floor_step s e).1 (run (floor_step s e).0 es).1 key (more (let above : s.next_key + 1 ≤ key = grind (arith, nat_tests) in omega (arith, above, next)))

-- keys count from 1
no_key : (capacity : ℕ) (es : List Event) (r : Watcher) → row_at watcher_key 0 (floor_after capacity es).watchers ≡ Some r → ⊥
no_key capacity es r at =
    let a = (ran (after_kept capacity []) (start_held capacity All) es).held.row r at in
    let b = (ran (after_kept capacity []) (start_held capacity (One 0)) es).held.row r at in
    let bad : ◌≡◌ {A = Scope} All (One 0) = sym a.scope_is ∙ b.scope_is in cc

-- so the watcher of a row has begun, with the row's opening
pub row_began : (capacity : ℕ) (es : List Event) (key : ℕ) (r : Watcher) → row_at watcher_key key (floor_after capacity es).watchers ≡ Some r
    → (at : ℕ) × (slice_get (answers capacity es) at ≡ Some (Ok (Opened key r.opening)))
row_began capacity es zero r at = absurd (no_key capacity es r at)
row_began capacity es (suc k) r at =
    let key = suc k in
    let g = given (empty_floor capacity) es key (omega arith) (key_below (after_kept capacity es) at) in
    let opening : g.1 ≡ r.opening = opening_told capacity es g.0 key g.1 g.2 ∙ sym ((held_at capacity es g.0 key g.1 g.2).row r at).opening_is in
    (g.0, g.2 ∙ ap (λ (o : Opening). Some (Ok (Opened key o))) opening)
