-- The pieces of a text of which the front is known, and numbers digit by digit.
use Rattle.memchr.specs.Find.{IsFirstByte, is_byte}
use Rattle.std.proofs.Common.{get_or, ◌≡◌, ◌≢◌, ℕ, zero, suc, ◌+◌, ◌<◌, ◌≤◌, ◌==◌, List, [], ◌∷◌, ◌++◌, length, take, drop, slice_index, Option, Some, None, MatchOption, true, refl, ap, sym, ◌∙◌, arith, eq-eqb, add-one}
use Rattle.std.proofs.lemmas.Bool.{ne_eqb, eqb-true}
use Rattle.std.proofs.Math.Seq.{take-length, drop-cons}
use Rattle.std.proofs.lemmas.List.{take-append-drop}
use Rattle.mt_lines.specs.Words.{pieces, number_from, with_digit}

abbrev IsUnbroken : ℕ → List ℕ → Type 0
IsUnbroken separator [] = Unit {0}
IsUnbroken separator (b ∷ bs) = (b ≢ separator) × IsUnbroken separator bs

pieces-cut : (separator : ℕ) (text rest : List ℕ) → IsUnbroken separator text → pieces separator (text ++ separator ∷ rest) ≡ text ∷ pieces separator rest
pieces-cut separator [] rest h = let e : (separator == separator) ≡ true = eq-eqb separator separator refl in rw e refl
pieces-cut separator (b ∷ text) rest h = rw (ne_eqb b separator h.0, pieces-cut separator text rest h.1) refl

pieces-unbroken : (separator : ℕ) (text : List ℕ) → IsUnbroken separator text → pieces separator text ≡ text ∷ []
pieces-unbroken separator [] h = refl
pieces-unbroken separator (b ∷ text) h = rw (ne_eqb b separator h.0, pieces-unbroken separator text h.1) refl

IsUnbroken-below : (separator : ℕ) (text : List ℕ) (k : ℕ) → ((j : ℕ) → j < k → (slice_index text j == separator) ≡ true → ⊥) → k ≤ length text → IsUnbroken separator (take k text)
IsUnbroken-below separator text zero h n = tt
IsUnbroken-below separator [] (suc k) h n = absurd (omega arith)
IsUnbroken-below separator (b ∷ text) (suc k) h n = (
  λ e. h 0 (omega arith) (eq-eqb b separator e),
  IsUnbroken-below separator text k (λ j lt. h (suc j) (omega arith)) (omega arith),
)

drop-at_separator : (separator : ℕ) (text : List ℕ) (k : ℕ) → k < length text → (slice_index text k == separator) ≡ true → drop k text ≡ separator ∷ drop (suc k) text
drop-at_separator separator [] k n e = absurd (omega arith)
drop-at_separator separator (b ∷ text) zero n e = let is : b ≡ separator = eqb-true b separator e in ap (λ x. x ∷ text) is
drop-at_separator separator (b ∷ text) (suc k) n e = drop-at_separator separator text k (omega arith) e

-- a text is cut at its first separator, and is one piece where it has none
pub first_piece : (separator : ℕ) (text : List ℕ) (r : Option ℕ) → IsFirstByte (is_byte separator) text r → MatchOption r (pieces separator text ≡ text ∷ []) (λ k. (k < length text) × (pieces separator text ≡ take k text ∷ pieces separator (drop (k + 1) text)))
first_piece separator text None h =
    let u = IsUnbroken-below separator text (length text) (λ j lt. h j (omega arith) lt) (omega arith) in
    pieces-unbroken separator text (rw (take-length text) at u)
first_piece separator text (Some k) h =
    let before = h.0 in
    let u = IsUnbroken-below separator text k (λ j lt. before.before j (omega arith) lt) (omega (arith, before.high)) in
    let split : text ≡ take k text ++ separator ∷ drop (suc k) text = sym (take-append-drop k text) ∙ ap (λ x. take k text ++ x) (drop-at_separator separator text k before.high h.1) in
    (before.high, rw add-one (ap (pieces separator) split ∙ pieces-cut separator (take k text) (drop (suc k) text) u))

-- digits after what is no number make none
pub number_from_none : (ds : List ℕ) → number_from None ds ≡ None
number_from_none [] = refl
number_from_none (d ∷ ds) = refl

-- bytes say no number where one is no digit, or makes one that 64 bits do not hold
pub digits_none : (n i : ℕ) (ds : List ℕ) → number_from (Some n) (drop i ds) ≡ number_from (Some 0) ds → i < length ds → with_digit n (get_or ds i 0) ≡ None → number_from (Some 0) ds ≡ None
digits_none n i ds h lt none =
    sym h ∙ ap (number_from (Some n)) (drop-cons ds i 0 lt) ∙ ap (λ m. number_from m (drop (suc i) ds)) none ∙ number_from_none (drop (suc i) ds)
