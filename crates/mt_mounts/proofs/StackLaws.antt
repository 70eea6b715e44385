-- What is known of stacks once a mount has come to a place or has gone from it.
use Rattle.std.proofs.Common.{◌≡◌, ◌≢◌, ◌⊎◌, ℕ, zero, suc, ◌+◌, ◌<◌, ◌≤◌, true, false, cond, Option, Some, None, refl, sym, ap, subst, ◌∙◌, inl, inr, arith}
use Rattle.std.specs.Map.{lookup}
use Rattle.std.specs.Option.{option_map_or}
use Rattle.std.proofs.NetLemmas.Options.{cond_none}
use Rattle.std.proofs.lemmas.Bool.{true≢false, cases_Bool, false_from_ne_true}
use Rattle.std.proofs.lemmas.Bool.Decides.{nat_tests}
use Rattle.std.proofs.lemmas.Option.{same_Some}
use Rattle.indexmap.specs.IndexMap.{get}
use Rattle.mt_skel.specs.Chain.{follow}
use Rattle.mt_skel.proofs.ChainLaws.{follow-step}
use Rattle.mt_mounts.specs.declared.mount.Place.{Place}
use Rattle.mt_mounts.specs.declared.mount.Mount.{Mount}
use Rattle.mt_mounts.specs.declared.stacks.Reach.{Reach}
use Rattle.mt_mounts.specs.declared.stacks.Stacks.{Stacks}
use Rattle.mt_mounts.specs.Forest.{is_at, place_eq, root_place}
use Rattle.mt_mounts.specs.Stacks.{reach, leads, IsStacked, IsBare, StandsOnly, IsShortened, linked, unlinked, gone_from}
use Rattle.mt_mounts.proofs.PlaceLaws.{same_place}

-- each place is equal to itself
pub place_self : (p : Place) → place_eq p p ≡ true
place_self p = grind (arith, nat_tests)

place_apart : (q p : Place) → q ≢ p → place_eq q p ≡ false
place_apart q p ne = false_from_ne_true (place_eq q p) (λ e. ne (same_place q p e))

place_cases : (q p : Place) → (q ≡ p) ⊎ (q ≢ p)
place_cases q p = elim (cases_Bool (place_eq q p)) [
  | inl e ↦ inl (same_place q p e)
  | inr e ↦ inr (λ (h : q ≡ p). true≢false (sym (ap (λ z. place_eq z p) h ∙ place_self p) ∙ e))
]

-- stacks are known along steps, however those are told
pub stacked_same : (x : Stacks) (next after : Place → Option Place) → ((q : Place) → next q ≡ after q) → IsStacked next x → IsStacked after x
stacked_same x next after e h = subst (λ n. IsStacked n x) (λ i q. e q i) h

-- and by the same entries
pub stacked_kept : (next : Place → Option Place) (old new : Stacks) → new.ends.entries ≡ old.ends.entries → new.starts.entries ≡ old.starts.entries → IsStacked next old → IsStacked next new
stacked_kept next old new en st x s e g =
    let told : get place_eq old.starts ≡ get place_eq new.starts = λ i q. lookup (place_eq q) (sym st i) in
    subst (λ l. leads next l s 0 e.steps s e.place) told (x s e (ap (lookup (place_eq s)) (sym en) ∙ g))

-- what is written at a place is there, and elsewhere all is as before
module _ (place : Place) (x : Option Reach) (old new : Place → Option Reach) (at : (q : Place) → new q ≡ cond (place_eq place q) x (old q)) where
  pub written_here : (q : Place) → q ≡ place → new q ≡ x
  written_here q e = at q ∙ ap (λ b. cond b x (old q)) (ap (place_eq place) e ∙ place_self place)

  pub written_apart : (q : Place) → q ≢ place → new q ≡ old q
  written_apart q ne = at q ∙ ap (λ b. cond b x (old q)) (place_apart place q (λ e. ne (sym e)))

module _ (next : Place → Option Place) (starts : Place → Option Reach) (s : Place) where
  -- a way whose steps all are still there still leads
  pub leads-over : (after : Place → Option Place) (told : Place → Option Reach) (n : ℕ) (P : ℕ → Place → Type 0)
      → ((i : ℕ) (q r : Place) → i < n → P i q → next q ≡ Some r → starts r ≡ Some (reach s (suc i)) → P (suc i) r × (after q ≡ Some r) × (told r ≡ Some (reach s (suc i))))
      → (i k : ℕ) (q t : Place) → i + k ≤ n → P i q → leads next starts s i k q t → leads after told s i k q t
  leads-over after told n P step i zero q t b p h = h
  leads-over after told n P step i (suc k) q t b p h =
      let o = step i q h.0 (omega (arith, b)) p h.1 h.2 in
      (h.0, o.1, o.2, leads-over after told n P step (suc i) k h.0 t (omega (arith, b)) o.0 h.3)

  -- one step more, and one less
  pub leads-snoc : (i k m : ℕ) (q t r : Place) → m ≡ suc (i + k) → next t ≡ Some r → starts r ≡ Some (reach s m) → leads next starts s i k q t → leads next starts s i (suc k) q r
  leads-snoc i zero m q t r e n l h = let f : m ≡ suc i = omega (arith, e) in (r, ap next h ∙ n, l ∙ ap (λ j. Some (reach s j)) f, refl)
  leads-snoc i (suc k) m q t r e n l h = (h.0, h.1, h.2, leads-snoc (suc i) k m h.0 t r (omega (arith, e)) n l h.3)

  pub leads-unsnoc : (i k : ℕ) (q r : Place) → leads next starts s i (suc k) q r → (t : Place) × (next t ≡ Some r) × leads next starts s i k q t
  leads-unsnoc i zero q r h = (q, h.1 ∙ ap (λ x. Some x) h.3, refl)
  leads-unsnoc i (suc k) q r h = let u = leads-unsnoc (suc i) k h.0 r h.3 in (u.0, u.1, (h.0, h.1, h.2, u.2))

  -- whoever follows the steps comes by the end of the way
  pub leads-follow : (i k n m : ℕ) (q t : Place) → m ≡ k + n → leads next starts s i k q t → follow next m q ≡ follow next n t
  leads-follow i zero n m q t e h = let f : m ≡ n = omega (arith, e) in ap (λ j. follow next j q) f ∙ ap (follow next n) h
  leads-follow i (suc k) n m q t e h =
      let f : m ≡ suc (k + n) = omega (arith, e) in
      ap (λ j. follow next j q) f ∙ follow-step next (k + n) q h.0 h.1 ∙ leads-follow (suc i) k n (k + n) h.0 t refl h.3

-- a mount has come to a free place
module _ (next : Place → Option Place) (place root : Place) (free : next place ≡ None) (bare : IsBare root next) where
  goes_on : (q r : Place) → next q ≡ Some r → linked place root next q ≡ Some r
  goes_on q r e = elim (place_cases q place) [
    | inl h ↦ absurd (let v : None ≡ Some r = sym free ∙ ap next (sym h) ∙ e in cc)
    | inr h ↦ ap (λ b. cond b (Some root) (next q)) (place_apart q place h) ∙ e
  ]

  linked_on : (starts told : Place → Option Reach) → ((q : Place) → q ≢ root → told q ≡ starts q) → (s : Place) (k : ℕ) (t : Place) → leads next starts s 0 k s t → leads (linked place root next) told s 0 k s t
  linked_on starts told same s k t h =
      leads-over next starts s (linked place root next) told k (λ j z. Unit {0})
      (λ j z r l p n st. (tt, goes_on z r n, same r (λ (e : r ≡ root). bare z (n ∙ ap (λ x. Some x) e)) ∙ st)) 0 k s t (omega arith) tt h

  -- nothing is written of it
  pub stacked_past : (x : Stacks) → IsStacked next x → IsStacked (linked place root next) x
  stacked_past x h s e g = linked_on (get place_eq x.starts) (get place_eq x.starts) (λ q ne. refl) s e.steps e.place (h s e g)

  -- the stack that ends there goes on
  pub stacked_linked : (old new : Stacks) (begun : Reach) (m : ℕ) → m ≡ suc begun.steps → IsStacked next old
      → leads next (get place_eq old.starts) begun.place 0 begun.steps begun.place place
      → ((p : Place) → get place_eq new.ends p ≡ cond (place_eq begun.place p) (Some (reach root m)) (get place_eq old.ends p))
      → ((p : Place) → get place_eq new.starts p ≡ cond (place_eq root p) (Some (reach begun.place m)) (get place_eq old.starts p))
      → IsStacked (linked place root next) new
  stacked_linked old new begun m em x way ends starts s e g =
      let told = get place_eq new.starts in
      let on = linked_on (get place_eq old.starts) told (written_apart root (Some (reach begun.place m)) (get place_eq old.starts) told starts) in
      elim (place_cases s begun.place) [
        | inl h ↦
            let w = same_Some (reach root m) e (sym (written_here begun.place (Some (reach root m)) (get place_eq old.ends) (get place_eq new.ends) ends s h) ∙ g) in
            let all = leads-snoc (linked place root next) told begun.place 0 begun.steps m begun.place place root (omega (arith, em)) (ap (λ b. cond b (Some root) (next place)) (place_self place))
            (written_here root (Some (reach begun.place m)) (get place_eq old.starts) told starts root refl) (on begun.place begun.steps place way) in
            let far = subst (λ j. leads (linked place root next) told begun.place 0 j begun.place root) (sym em) all in
            subst (λ z. leads (linked place root next) told z 0 e.steps z e.place) (sym h)
            (subst (λ (z : Reach). leads (linked place root next) told begun.place 0 z.steps begun.place z.place) w far)
        | inr h ↦ on s e.steps e.place (x s e (sym (written_apart begun.place (Some (reach root m)) (get place_eq old.ends) (get place_eq new.ends) ends s h) ∙ g))
      ]

-- a mount has gone from its place
module _ (next : Place → Option Place) (place root : Place) (only : StandsOnly place root next) where
  stays : (q r : Place) → q ≢ place → next q ≡ Some r → unlinked place next q ≡ Some r
  stays q r ne e = ap (λ b. cond b None (next q)) (place_apart q place ne) ∙ e

  other : (q r : Place) → q ≢ place → next q ≡ Some r → r ≢ root
  other q r ne e h = ne (only q (e ∙ ap (λ x. Some x) h))

  module _ (starts told : Place → Option Reach) (same : (q : Place) → q ≢ root → told q ≡ starts q) where
    -- a way that does not come by the place before its end
    past : (s : Place) → s ≢ place → (k : ℕ) → ((j : ℕ) → j < k → starts place ≢ Some (reach s j)) → (t : Place) → leads next starts s 0 k s t → leads (unlinked place next) told s 0 k s t
    past s ne k none t h =
        leads-over next starts s (unlinked place next) told k (λ j q. j < k → q ≢ place)
        (λ j q r l p n st. ((λ (m : suc j < k) (e : r ≡ place). none (suc j) m (ap starts (sym e) ∙ st)), stays q r (p l) n, same r (other q r (p l) n) ∙ st)) 0 k s t (omega arith) (λ l. ne) h

    -- as one whose last step was from the place: each place before it is nearer to the start
    up_to : (s : Place) → s ≢ place → (i : ℕ) → starts place ≡ Some (reach s i) → leads next starts s 0 (suc i) s root → leads (unlinked place next) told s 0 i s place
    up_to s ne i at h =
        let u = leads-unsnoc next starts s 0 i s root h in
        past s ne i (λ j m e. let f : i ≡ j = ap (λ (z : Reach). z.steps) (same_Some (reach s i) (reach s j) (sym at ∙ e)) in absurd (omega (arith, m, f))) place
        (subst (λ z. leads next starts s 0 i s z) (only u.0 u.1) u.2)

  pub stacked_unlinked : (old new : Stacks) (ends : Place → Option Reach) → IsStacked next old
      → ((s : Place) (e : Reach) → ends s ≡ Some e → IsShortened place root (get place_eq old.starts place) s (get place_eq old.ends s) e)
      → ((p : Place) → get place_eq new.ends p ≡ cond (place_eq place p) None (ends p))
      → ((p : Place) → get place_eq new.starts p ≡ cond (place_eq root p) None (get place_eq old.starts p))
      → IsStacked (unlinked place next) new
  stacked_unlinked old new ends x kept at starts s e g =
      let told = get place_eq new.starts in
      let same = written_apart root None (get place_eq old.starts) told starts in
      elim (place_cases s place) [
        | inl h ↦ absurd (let v : None ≡ Some e = sym (written_here place None ends (get place_eq new.ends) at s h) ∙ g in cc)
        | inr h ↦
            let was : ends s ≡ Some e = sym (written_apart place None ends (get place_eq new.ends) at s h) ∙ g in
            elim (kept s e was) [
              | inl k ↦ past (get place_eq old.starts) told same s h e.steps (λ j l. k.0 j) e.place (x s e k.1)
              | inr k ↦
                  subst (λ (z : Reach). leads (unlinked place next) told s 0 z.steps s z.place) (sym k.3)
                  (up_to (get place_eq old.starts) told same s h k.0 k.1 (x s (reach root (suc k.0)) k.2))
            ]
      ]

-- the steps, but from the place of a mount, if it has one
pub stacked_at : (m : Mount) (place to : Option Place) (next : Place → Option Place) (x : Stacks) → m.place ≡ place → IsStacked (λ q. cond (option_map_or (place_eq q) place false) to (next q)) x → IsStacked (λ q. cond (is_at q m) to (next q)) x
stacked_at m place to next x e h = subst (λ o. IsStacked (λ q. cond (option_map_or (place_eq q) o false) to (next q)) x) (sym e) h

module _ (m : Mount) (next : Place → Option Place) (only : (q : Place) → next q ≡ Some (root_place m) → is_at q m ≡ true) where
  pub only_there : (p r : Place) → m.place ≡ Some p → r ≡ root_place m → StandsOnly p r next
  only_there p r e f q n = same_place q p (ap (λ o. option_map_or (place_eq q) o false) (sym e) ∙ only q (n ∙ ap (λ z. Some z) f))

  pub gone_bare : (r : Place) → r ≡ root_place m → IsBare r (gone_from m next)
  gone_bare r f q n =
      let c = cond_none (is_at q m) (next q) (root_place m) (n ∙ ap (λ z. Some z) f) in
      true≢false (sym (only q c.1) ∙ c.0)
