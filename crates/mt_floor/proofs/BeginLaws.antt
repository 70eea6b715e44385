-- Only `Open` begins a watcher, and what a watcher is when it begins.
use Rattle.std.proofs.Common.{◌≡◌, ◌⊎◌, inl, inr, ℕ, ◌+◌, ◌≤◌, false, cond, [], ◌∷◌, Some, None, Ok, refl, sym, ap, ◌∙◌, subst, arith, eq-eqb}
use Rattle.std.proofs.lemmas.List.{append-nil}
use Rattle.mt_propagate.proofs.RowLaws.{row-second}
use Rattle.mt_events.specs.declared.opening.Scope.{Scope}
use Rattle.mt_events.specs.declared.opening.Opening.{Opening}
use Rattle.mt_floor.specs.declared.event.Event.{Event}
use Rattle.mt_floor.specs.declared.event.Answer.TheVariants.{Opened}
use Rattle.mt_floor.specs.Watcher.{watcher_key, due_for, opening_of, is_missing}
use Rattle.mt_floor.specs.Schedule.{FloorView, Stepped, floor_step, has_open}
use Rattle.mt_floor.proofs.RowLaws.{fresh}
use Rattle.mt_floor.proofs.EffectLaws.{newcomer, Still, emptied, still_answer, each_event}
use Rattle.mt_floor.proofs.HeldLaws.{Kept, Held, only}
use Rattle.mt_floor.proofs.FloorLaws.{newcomer_kept, nothing}
pub use Rattle.mt_floor.proofs.EffectLaws.{opens}

-- a watcher has begun, at the end of these commands
pub record Begun (s : FloorView) (key : ℕ) (o : Opening) (s' : FloorView) : Type 0 where
  pub key_is : key ≡ s.next_key
  pub idle : s.due ≡ []
  pub opening_is : o ≡ opening_of s.journal o.scope
  pub there : is_missing s.journal o.scope ≡ false
  pub kept : Kept s'
  pub held : Held key o.scope s.journal [] [] [] s'

scope_is : (s : FloorView) (sc : Scope) → (opening_of s.journal sc).scope ≡ sc
unfolding opening_of
scope_is s sc = refl

begun : (s : FloorView) (sc : Scope) → Kept s → s.due ≡ [] → is_missing s.journal sc ≡ false → Begun s s.next_key (opening_of s.journal sc) (opens s sc)
begun s sc k none there = record {
  key_is = refl;
  idle = none;
  opening_is = ap (opening_of s.journal) (sym (scope_is s sc));
  there = ap (is_missing s.journal) (scope_is s sc) ∙ there;
  kept = newcomer_kept s sc k;
  held = subst (λ (x : Scope). Held s.next_key x s.journal [] [] [] (opens s sc)) (sym (scope_is s sc)) (record {
    journal = sym (append-nil s.journal);
    old = omega arith;
    first = record { not_taken = []; taken_is = refl; not_posted = []; posted_is = refl };
    row = only (row-second watcher_key s.watchers (newcomer s sc ∷ []) s.next_key (newcomer s sc) (fresh watcher_key s.next_key s.next_key s.watchers (omega arith) k.below)
        (ap (λ b. cond b (Some (newcomer s sc)) None) (eq-eqb s.next_key s.next_key refl))) (record { scope_is = refl; since_is = refl; opening_is = refl; posted_is = refl; taken_is = refl });
    due = ap (due_for s.next_key) none ∙ sym (nothing (has_open s.next_key (opens s sc)));
  });
}

-- an event whose answer is an `Opened` has begun a watcher
abbrev Begins : FloorView → Stepped → Type 0
Begins s a = (key : ℕ) (o : Opening) → a.1 ≡ Ok (Opened key o) → Begun s key o a.0

not_opened : {A : Type 0} (a : Still) (key : ℕ) (o : Opening) → still_answer a ≡ Ok (Opened key o) → A
not_opened emptied key o e = absurd (cc)
not_opened a key o e = absurd (cc)

pub begins : (s : FloorView) (e : Event) → Kept s → Begins s (floor_step s e)
begins s e k = each_event s (λ e a. Begins s a) (record {
  on_still = λ e a key o is. not_opened a key o is;
  on_apply = λ c p none can key o is. absurd (cc);
  on_lag = λ d ds r some at key o is. absurd (cc);
  on_send = λ d ds r some at key o is. absurd (cc);
  on_open = λ sc none can. opened sc none can.there;
  on_take = λ q r p at left key o is. absurd (cc);
  on_close = λ q r at none key o is. absurd (cc);
  on_stop = λ none key o is. absurd (cc);
}) e
  where
    opened : (sc : Scope) → s.due ≡ [] → is_missing s.journal sc ≡ false → Begins s (opens s sc, Ok (Opened s.next_key (opening_of s.journal sc)))
    opened sc none there key o is =
        let number : s.next_key ≡ key = cc in
        let opening : opening_of s.journal sc ≡ o = cc in
        coe 0 1 (i. Begun s (number i) (opening i) (opens s sc)) (begun s sc k none there)

-- ---- only an `Opened` gives out a key

pub record Gives (s : FloorView) (a : Stepped) : Type 0 where
  pub opening : Opening
  pub answer : a.1 ≡ Ok (Opened s.next_key opening)
  pub next : a.0.next_key ≡ s.next_key + 1

pub counts : (s : FloorView) (e : Event) → ((floor_step s e).0.next_key ≡ s.next_key) ⊎ Gives s (floor_step s e)
counts s e = each_event s (λ e a. (a.0.next_key ≡ s.next_key) ⊎ Gives s a) (record {
  on_still = λ e a. inl refl;
  on_apply = λ c p none can. inl refl;
  on_lag = λ d ds r some at. inl refl;
  on_send = λ d ds r some at. inl refl;
  on_open = λ sc none can. inr (record { opening = opening_of s.journal sc; answer = refl; next = refl });
  on_take = λ q r p at left. inl refl;
  on_close = λ q r at none. inl refl;
  on_stop = λ none. inl refl;
}) e

-- so the next key never falls
pub grows : (s : FloorView) (e : Event) → s.next_key ≤ (floor_step s e).0.next_key
grows s e = elim (counts s e) [ inl same ↦ omega (arith, same) | inr gives ↦ omega (arith, gives.next) ]
