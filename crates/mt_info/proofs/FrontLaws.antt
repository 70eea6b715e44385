-- Several appends in a row: what stood in the text stays in front, and words stand after their separators.
use Rattle.std.proofs.Common.{◌≡◌, ℕ, zero, suc, ◌+◌, ◌<◌, ◌≤◌, Bool, true, List, [], ◌∷◌, ◌++◌, length, map, get_or, drop, sym, ◌∙◌, ap, arith, append_assoc, append-nil}
use Rattle.std.specs.List.{flat_map, list_all}
use Rattle.std.proofs.lemmas.Grind.{flat_map-append}
use Rattle.std.proofs.lemmas.List.{drop_all, drop_more}
use Rattle.mt_skel.specs.Front.{IsFront}
use Rattle.mt_skel.proofs.MiddleLaws.{and_first, and_second}
use Rattle.mt_info.specs.Building.{behind}

pub front_through : {A : Type 0} (a b c : List A) → IsFront a b → IsFront b c → IsFront a c
front_through a b c p q = (p.0 ++ q.0, q.1 ∙ ap (λ t. t ++ q.0) p.1 ∙ append_assoc a p.0 q.0)

-- a text that stays as it is
pub front_same : {A : Type 0} (a b : List A) → b ≡ a → IsFront a b
front_same a b e = ([], e ∙ sym (append-nil a))

pub front_of_three : {A : Type 0} (a b c d : List A) → IsFront a b → IsFront b c → IsFront c d → IsFront a d
front_of_three a b c d p q r = front_through a c d (front_through a b c p q) r

pub front_of_four : {A : Type 0} (a b c d e : List A) → IsFront a b → IsFront b c → IsFront c d → IsFront d e → IsFront a e
front_of_four a b c d e p q r s = front_through a c e (front_through a b c p q) (front_through c d e r s)

-- three lists of words after their separators, and one more word
pub fields_appended : (s : ℕ) (t0 t1 t2 t3 t4 t5 : List ℕ) (a b c : List (List ℕ)) (w : List ℕ)
    → t1 ≡ t0 ++ behind s a → t2 ≡ t1 ++ behind s b → t3 ≡ t2 ++ behind s c → t4 ≡ t3 ++ s ∷ [] → t5 ≡ t4 ++ w → t5 ≡ t0 ++ behind s (a ++ b ++ c ++ w ∷ [])
fields_appended s t0 t1 t2 t3 t4 t5 a b c w e1 e2 e3 e4 e5 = rw (e5, e4, e3, e2, e1) (simp (append_assoc, append-nil, flat_map-append))

pub three_fields : (s : ℕ) (t0 t1 t2 t3 : List ℕ) (a b c : List (List ℕ)) → t1 ≡ t0 ++ behind s a → t2 ≡ t1 ++ behind s b → t3 ≡ t2 ++ behind s c → t3 ≡ t0 ++ behind s (a ++ b ++ c ++ [])
three_fields s t0 t1 t2 t3 a b c e1 e2 e3 = rw (e3, e2, e1) (simp (append_assoc, append-nil, flat_map-append))

pub five_appended : {A : Type 0} (t0 t1 t2 t3 t4 t5 a b c d e : List A) → t1 ≡ t0 ++ a → t2 ≡ t1 ++ b → t3 ≡ t2 ++ c → t4 ≡ t3 ++ d → t5 ≡ t4 ++ e → t5 ≡ t0 ++ (a ++ (b ++ (c ++ (d ++ e))))
five_appended t0 t1 t2 t3 t4 t5 a b c d e e1 e2 e3 e4 e5 = rw (e5, e4, e3, e2, e1) (simp append_assoc)

pub six_appended : {A : Type 0} (t0 t1 t2 t3 t4 t5 t6 a b c d e f : List A) → t1 ≡ t0 ++ a → t2 ≡ t1 ++ b → t3 ≡ t2 ++ c → t4 ≡ t3 ++ d → t5 ≡ t4 ++ e → t6 ≡ t5 ++ f → t6 ≡ t0 ++ (a ++ (b ++ (c ++ (d ++ (e ++ f)))))
six_appended t0 t1 t2 t3 t4 t5 t6 a b c d e f e1 e2 e3 e4 e5 e6 = rw (e6, e5, e4, e3, e2, e1) (simp append_assoc)

-- what a loop has appended of a list, and what is to come of it: with one element more, and at its end
pub passed_one : {X A : Type 0} (f : X → List A) (xs : List X) (i : ℕ) (d : X) (text more whole : List A) → i < length xs → more ≡ text ++ f (get_or xs i d) → text ++ flat_map f (drop i xs) ≡ whole
    → more ++ flat_map f (drop (i + 1) xs) ≡ whole
passed_one f xs i d text more whole l e before =
    let rest = flat_map f (drop (i + 1) xs) in
    ap (λ t. t ++ rest) e ∙ append_assoc text (f (get_or xs i d)) rest ∙ ap (λ t. text ++ flat_map f t) (sym (drop_more xs i d l)) ∙ before

pub mapped_one : {X A : Type 0} (f g : X → A) (xs : List X) (i : ℕ) (d : X) (y : A) (rows more whole : List A) → g ≡ f → i < length xs → more ≡ rows ++ y ∷ [] → y ≡ g (get_or xs i d) → rows ++ map f (drop i xs) ≡ whole
    → more ++ map f (drop (i + 1) xs) ≡ whole
mapped_one f g xs i d y rows more whole same l e at before =
    let rest = map f (drop (i + 1) xs) in
    ap (λ t. t ++ rest) (e ∙ ap (λ x. rows ++ x ∷ []) (at ∙ ap (λ h. h (get_or xs i d)) same)) ∙ append_assoc rows (f (get_or xs i d) ∷ []) rest
    ∙ ap (λ t. rows ++ map f t) (sym (drop_more xs i d l)) ∙ before

pub passed_all : {X A : Type 0} (f : List X → List A) (xs : List X) (i : ℕ) (text whole : List A) → f [] ≡ [] → length xs ≤ i → text ++ f (drop i xs) ≡ whole → text ≡ whole
passed_all f xs i text whole none l e = sym (append-nil text) ∙ ap (λ t. text ++ t) (sym (ap f (drop_all i xs l) ∙ none)) ∙ e

-- what is true of all is true of the one at a place
pub passes_at : {X : Type 0} (p : X → Bool) (xs : List X) (i : ℕ) (d : X) → i < length xs → list_all p xs ≡ true → p (get_or xs i d) ≡ true
passes_at p [] i d l all = absurd (omega arith)
passes_at p (y ∷ ys) zero d l all = and_first (p y) _ all
passes_at p (y ∷ ys) (suc i) d l all = passes_at p ys i d (omega arith) (and_second (p y) _ all)
