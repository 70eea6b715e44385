-- A list with one more element at its end, and its fronts.
use Rattle.std.proofs.Common.{◌≡◌, ◌⊎◌, ℕ, zero, suc, ◌+◌, ◌-◌, ◌<◌, ◌≤◌, List, [], ◌∷◌, ◌++◌, length, get_or, take, drop, reverse, Some, slice_get, refl, sym, ap, ◌∙◌, inl, inr, arith, append-nil, append_assoc}
use Rattle.std.specs.List.{flat_map}
use Rattle.mt_skel.specs.Front.{IsFront}
use Rattle.std.proofs.lemmas.Grind.{flat_map-append}
use Rattle.std.proofs.lemmas.List.{reverse-append, take_more, take-append-drop, drop-append-le, drop_all, length_push}
use Rattle.std.proofs.Math.Seq.{take-append_seam}
use Rattle.std.proofs.lemmas.Option.{slice_get_within, get_or_from_slice_get}

pub snoc_some : {X : Type 0} (xs : List X) (x : X) → xs ++ x ∷ [] ≡ [] → ⊥
snoc_some xs x e = omega (arith, ap length e, length_push xs x)

pub front_empty : {X : Type 0} (xs ys : List X) → xs ++ ys ≡ [] → xs ≡ []
front_empty [] ys e = refl
front_empty (x ∷ xs) ys e = absurd (cc)

-- a list is empty or has a last element
pub last_of : {X : Type 0} (xs : List X) → (xs ≡ []) ⊎ ((front : List X) × (x : X) × (xs ≡ front ++ x ∷ []))
last_of [] = inl refl
last_of (x ∷ xs) = elim (last_of xs) [
  | inl none ↦ inr ([], x, ap (λ l. x ∷ l) none)
  | inr some ↦ inr (x ∷ some.0, some.1, ap (λ l. x ∷ l) some.2)
]

-- an element of a list with one more: one of before, or the last
pub pushed : {X : Type 0} (xs : List X) (y x : X) (i : ℕ) → slice_get (xs ++ y ∷ []) i ≡ Some x → (slice_get xs i ≡ Some x) ⊎ ((i ≡ length xs) × (y ≡ x))
pushed [] y x zero e = inr (refl, cc)
pushed [] y x (suc i) e = absurd (cc)
pushed (a ∷ xs) y x zero e = inl e
pushed (a ∷ xs) y x (suc i) e = grind (arith, pushed xs y x i e)

pub kept : {X : Type 0} (xs : List X) (y x : X) (i : ℕ) → slice_get xs i ≡ Some x → slice_get (xs ++ y ∷ []) i ≡ Some x
kept [] y x i e = absurd (cc)
kept (a ∷ xs) y x zero e = e
kept (a ∷ xs) y x (suc i) e = kept xs y x i e

pub last_place : {X : Type 0} (xs : List X) (y : X) → slice_get (xs ++ y ∷ []) (length xs) ≡ Some y
last_place [] y = refl
last_place (x ∷ xs) y = last_place xs y

-- what is in front stays there when more is added twice
pub front_through : {X : Type 0} (xs ys zs : List X) → IsFront xs ys → IsFront ys zs → IsFront xs zs
front_through xs ys zs p q = (p.0 ++ q.0, q.1 ∙ ap (λ l. l ++ q.0) p.1 ∙ append_assoc xs p.0 q.0)

-- the front of a list with one element more
pub take_next : {X : Type 0} (xs : List X) (i : ℕ) (x : X) → i < length xs → x ≡ get_or xs i x → take (i + 1) xs ≡ take i xs ++ x ∷ []
take_next xs i x l e = take_more xs i x l ∙ ap (λ y. take i xs ++ y ∷ []) (sym e)

pub split_next : {X : Type 0} (xs : List X) (i : ℕ) (x : X) → i < length xs → x ≡ get_or xs i x → xs ≡ (take i xs ++ x ∷ []) ++ drop (i + 1) xs
split_next xs i x l e = sym (take-append-drop (i + 1) xs) ∙ ap (λ l. l ++ drop (i + 1) xs) (take_next xs i x l e)

-- the front of a list with the element that was found after it
pub take_found : {X : Type 0} (w : List X) (i : ℕ) (x : X) → slice_get w i ≡ Some x → take (i + 1) w ≡ take i w ++ x ∷ []
take_found w i x e = take_next w i x (slice_get_within w i x e) (sym (get_or_from_slice_get w i x x e))

-- all but the last element
pub take_front : {X : Type 0} (xs front : List X) (x : X) → xs ≡ front ++ x ∷ [] → take (length xs - 1) xs ≡ front
take_front xs front x e =
    let size : length xs - 1 ≡ length front = omega (arith, ap length e, length_push front x) in
    rw (size, e) (take-append_seam front (x ∷ []))

-- a list that is walked from its end, and what is walked already in its reverse
pub walked_more : {X : Type 0} (here up done more whole : List X) (x y : X) → here ≡ up ++ x ∷ [] → here ++ reverse done ≡ whole → more ≡ done ++ y ∷ [] → y ≡ x → up ++ reverse more ≡ whole
walked_more here up done more whole x y e w m same = rw (m, reverse-append done (y ∷ []), same, ← append_assoc up (x ∷ []) (reverse done), ← e) w

-- the last n of an empty list, and of one with one element more
pub last_none : {X : Type 0} (here : List X) (n : ℕ) → here ≡ [] → drop (length here - n) here ≡ []
last_none here n e = rw e (drop_all (0 - n) [] (omega arith))

pub last_more : {X : Type 0} (here up : List X) (x : X) (n : ℕ) → here ≡ up ++ x ∷ [] → 1 ≤ n → drop (length here - n) here ≡ drop (length up - (n - 1)) up ++ x ∷ []
last_more here up x n e l =
    let size : length here - n ≡ length up - (n - 1) = omega (arith, ap length e, length_push up x, l) in
    rw (size, e) (drop-append-le (length up - (n - 1)) up (x ∷ []) (omega arith))

-- what was written of these, and then the last of them
pub written_more : {X A : Type 0} (f : X → List A) (here up : List X) (x : X) (n : ℕ) (text0 text1 text2 : List A) → here ≡ up ++ x ∷ [] → 1 ≤ n
    → text1 ≡ text0 ++ flat_map f (drop (length up - (n - 1)) up) → text2 ≡ text1 ++ f x → text2 ≡ text0 ++ flat_map f (drop (length here - n) here)
written_more f here up x n text0 text1 text2 e l e1 e2 =
    rw (last_more here up x n e l, e2, e1) (simp (flat_map-append, append-nil, append_assoc))
