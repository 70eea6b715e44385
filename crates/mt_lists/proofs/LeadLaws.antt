-- Places that lead to IDs, ties that are written, and the ends of a list by the IDs at its places.
use Rattle.std.proofs.Common.{◌≡◌, ◌≢◌, ℕ, ◌<◌, Bool, true, false, cond, eqb, eq-eqb, is_none, List, [], ◌∷◌, Option, Some, None, refl, sym, ap, ◌∙◌, inl, inr, arith}
use Rattle.std.specs.Option.{option_map, option_and_then}
use Rattle.std.proofs.lemmas.Bool.{cases_eq, ne_eqb}
use Rattle.std.proofs.lemmas.Bool.Decides.{nat_tests}
use Rattle.mt_lists.specs.declared.ties.Tie.{Tie}
use Rattle.mt_lists.specs.declared.tops.Top.{Top}
use Rattle.mt_lists.specs.Lists.{names}
use Rattle.mt_lists.specs.Neighbours.{Ends, last_from}
use Rattle.mt_lists.specs.SlotLists.{LeadsTo}
use Rattle.mt_lists.specs.Ties.{id_of_tie, id_at, AreApart, ends_in, with_before, with_after, given_tie}
use Rattle.mt_lists.proofs.NeighbourLaws.{rising}

-- where more places have IDs
pub lead-more : (f g : ℕ → Option ℕ) (o i : Option ℕ) → ((s q : ℕ) → f s ≡ Some q → g s ≡ Some q) → LeadsTo f o i → LeadsTo g o i
lead-more f g None None h e = refl
lead-more f g None (Some i) h e = absurd (cc)
lead-more f g (Some s) None h e = absurd (cc)
lead-more f g (Some s) (Some i) h e = let v : f s ≡ Some i = cc in ap (λ x. Some x) (h s i v)

-- where one of two leads
pub lead-cond : (f : ℕ → Option ℕ) (c : Bool) (o p i j : Option ℕ) → LeadsTo f o i → LeadsTo f p j → LeadsTo f (cond c o p) (cond c i j)
lead-cond f true o p i j d e = d
lead-cond f false o p i j d e = e

-- a place leads to this one where the ID is the one at this
pub lead-names : (ties : ℕ → Option Tie) → AreApart ties → (j q : ℕ) → id_at ties j ≡ Some q → (o i : Option ℕ) → LeadsTo (id_at ties) o i → names i q ≡ names o j
lead-names ties apart j q at None None e = refl
lead-names ties apart j q at None (Some i) e = absurd (cc)
lead-names ties apart j q at (Some s) None e = absurd (cc)
lead-names ties apart j q at (Some s) (Some i) e =
    let v : id_at ties s ≡ Some i = cc in
    elim (cases_eq s j) [
      | inl same ↦
          let w : Some i ≡ Some q = sym v ∙ ap (id_at ties) same ∙ at in
          let u : i ≡ q = cc in
          eq-eqb i q u ∙ sym (eq-eqb s j same)
      | inr ne ↦ ne_eqb i q (λ u. ne (apart s j q (v ∙ ap (λ x. Some x) u) at)) ∙ sym (ne_eqb s j ne)
    ]

-- there is no place where there is no ID, and the other way round
pub lead-none : (f : ℕ → Option ℕ) (o i : Option ℕ) → LeadsTo f o i → is_none o ≡ is_none i
lead-none f None None e = refl
lead-none f None (Some i) e = absurd (cc)
lead-none f (Some s) None e = absurd (cc)
lead-none f (Some s) (Some i) e = refl

-- a place without an ID is led to by none
pub lead-apart : (f : ℕ → Option ℕ) (s : ℕ) (o i : Option ℕ) → f s ≡ None → LeadsTo f o i → names o s ≡ false
lead-apart f s None i n e = refl
lead-apart f s (Some t) None n e = absurd (cc)
lead-apart f s (Some t) (Some i) n e = ne_eqb t s (λ u. (let v : f t ≡ Some i = cc in let w : None ≡ Some i = sym n ∙ ap f (sym u) ∙ v in absurd (cc)))

-- where the ID of one place is gone
pub lead-less : (f g : ℕ → Option ℕ) (gone : ℕ) (o i : Option ℕ) → ((s q : ℕ) → f s ≡ Some q → q ≢ gone → g s ≡ Some q) → (i ≡ Some gone → ⊥) → LeadsTo f o i → LeadsTo g o i
lead-less f g gone None None h ne e = refl
lead-less f g gone None (Some i) h ne e = absurd (cc)
lead-less f g gone (Some s) None h ne e = absurd (cc)
lead-less f g gone (Some s) (Some i) h ne e = let v : f s ≡ Some i = cc in ap (λ x. Some x) (h s i v (λ u. ne (ap (λ x. Some x) u)))

-- a write of one tie
given-some : (o : Option ℕ) (f : Tie → Tie) (ties : ℕ → Option Tie) (k : ℕ) (t : Tie) → ties k ≡ Some t → given_tie o f ties k ≡ Some (cond (names o k) (f t) t)
given-some None f ties k t e = e
given-some (Some s) f ties k t e = go (eqb s k) (ties k) e
  where
    go : (b : Bool) (x : Option Tie) → x ≡ Some t → cond b (option_map f x) x ≡ Some (cond b (f t) t)
    go true x e = ap (option_map f) e
    go false x e = e

given-none : (o : Option ℕ) (f : Tie → Tie) (ties : ℕ → Option Tie) (k : ℕ) → ties k ≡ None → given_tie o f ties k ≡ None
given-none None f ties k e = e
given-none (Some s) f ties k e = go (eqb s k) (ties k) e
  where
    go : (b : Bool) (x : Option Tie) → x ≡ None → cond b (option_map f x) x ≡ None
    go true x e = ap (option_map f) e
    go false x e = e

-- both writes
pub given-both : (pb b pa a : Option ℕ) (ties after_t before_t : ℕ → Option Tie) → ((k : ℕ) → after_t k ≡ given_tie pa (with_after a) ties k) → ((k : ℕ) → before_t k ≡ given_tie pb (with_before b) after_t k)
    → (k : ℕ) (t : Tie) → ties k ≡ Some t → before_t k ≡ Some (record { id = t.id; number = t.number; before = cond (names pb k) b t.before; after = cond (names pa k) a t.after })
given-both pb b pa a ties after_t before_t w_a w_b k t e =
    w_b k ∙ given-some pb (with_before b) after_t k (cond (names pa k) (with_after a t) t) (w_a k ∙ given-some pa (with_after a) ties k t e) ∙ go (names pb k) (names pa k)
  where
    go : (c d : Bool) → ◌≡◌ {A = Option Tie} (Some (cond c (with_before b (cond d (with_after a t) t)) (cond d (with_after a t) t))) (Some (record { id = t.id; number = t.number; before = cond c b t.before; after = cond d a t.after }))
    go true true = refl
    go true false = refl
    go false true = refl
    go false false = refl

pub given-neither : (pb b pa a : Option ℕ) (ties after_t before_t : ℕ → Option Tie) → ((k : ℕ) → after_t k ≡ given_tie pa (with_after a) ties k) → ((k : ℕ) → before_t k ≡ given_tie pb (with_before b) after_t k)
    → (k : ℕ) → ties k ≡ None → before_t k ≡ None
given-neither pb b pa a ties after_t before_t w_a w_b k e = w_b k ∙ given-none pb (with_before b) after_t k (w_a k ∙ given-none pa (with_after a) ties k e)

-- the last of a list is above its first
pub over-last : (x y : ℕ) (ys : List ℕ) → rising (x ∷ y ∷ ys) ≡ true → x < last_from y ys
over-last x y [] r = grind (arith, nat_tests)
over-last x y (z ∷ zs) r =
    let ih = over-last x z zs in
    grind (arith, nat_tests)

-- what the ends of a top are
pub ends-parts : (ties : ℕ → Option Tie) (top : Top) (e : Ends) → ends_in ties top ≡ Some e → (id_at ties top.first ≡ Some e.first) × (id_at ties top.last ≡ Some e.last) × (top.count ≡ e.count)
ends-parts ties top e is = go (id_at ties top.first) (id_at ties top.last) is
  where
    go : (f l : Option ℕ) → option_and_then (λ x. option_map (λ y. record { first = x; last = y; count = top.count }) l) f ≡ Some e → (f ≡ Some e.first) × (l ≡ Some e.last) × (top.count ≡ e.count)
    go None l is = absurd (cc)
    go (Some x) None is = absurd (cc)
    go (Some x) (Some y) is =
        let v : record { first = x; last = y; count = top.count } ≡ e = cc in
        (ap (λ (z : Ends). Some z.first) v, ap (λ (z : Ends). Some z.last) v, ap (λ (z : Ends). z.count) v)

pub ends-whole : (ties : ℕ → Option Tie) (top : Top) (f l : ℕ) → id_at ties top.first ≡ Some f → id_at ties top.last ≡ Some l → ends_in ties top ≡ Some (record { first = f; last = l; count = top.count })
ends-whole ties top f l a b =
    ap (option_and_then (λ x. option_map (λ y. record { first = x; last = y; count = top.count }) (id_at ties top.last))) a
    ∙ ap (option_map (λ y. record { first = f; last = y; count = top.count })) b

-- where more places have IDs
pub ends-more : (ties new : ℕ → Option Tie) (top : Top) (e : Ends) → ((s q : ℕ) → id_at ties s ≡ Some q → id_at new s ≡ Some q) → ends_in ties top ≡ Some e → ends_in new top ≡ Some e
ends-more ties new top e h is =
    let p = ends-parts ties top e is in
    ends-whole new top e.first e.last (h top.first e.first p.0) (h top.last e.last p.1) ∙ ap (λ c. Some (record { first = e.first; last = e.last; count = c })) p.2

-- which leave each ID where it is
given-id : (o : Option ℕ) (f : Tie → Tie) (ties : ℕ → Option Tie) → ((t : Tie) → (f t).id ≡ t.id) → (k : ℕ) → id_of_tie (given_tie o f ties k) ≡ id_at ties k
given-id None f ties same k = refl
given-id (Some s) f ties same k = go (eqb s k) (ties k)
  where
    go : (b : Bool) (x : Option Tie) → id_of_tie (cond b (option_map f x) x) ≡ id_of_tie x
    go true None = refl
    go true (Some t) = ap (λ i. Some i) (same t)
    go false x = refl

pub given-ids : (pb b pa a : Option ℕ) (ties after_t before_t : ℕ → Option Tie) → ((k : ℕ) → after_t k ≡ given_tie pa (with_after a) ties k) → ((k : ℕ) → before_t k ≡ given_tie pb (with_before b) after_t k)
    → (k : ℕ) → id_at before_t k ≡ id_at ties k
given-ids pb b pa a ties after_t before_t w_a w_b k =
    ap id_of_tie (w_b k) ∙ given-id pb (with_before b) after_t (λ t. refl) k ∙ ap id_of_tie (w_a k) ∙ given-id pa (with_after a) ties (λ t. refl) k

-- the ends of a list, where more places have IDs
pub ends-kept : (ties new : ℕ → Option Tie) → ((s q : ℕ) → id_at ties s ≡ Some q → id_at new s ≡ Some q) → (top : Option Top) (e : Option Ends)
    → option_map (ends_in ties) top ≡ option_map (λ e. Some e) e → option_map (ends_in new) top ≡ option_map (λ e. Some e) e
ends-kept ties new h None e is = is
ends-kept ties new h (Some t) None is = absurd (cc)
ends-kept ties new h (Some t) (Some e) is = ap (λ o. Some o) (ends-more ties new t e h (let v : Some (ends_in ties t) ≡ Some (Some e) = is in cc))
