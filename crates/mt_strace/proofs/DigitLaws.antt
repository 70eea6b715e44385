-- Numbers as they are written: digits alone.
use Rattle.std.proofs.Common.{◌≡◌, ℕ, ◌+◌, ◌<◌, ◌≤◌, ◌^◌, ◌%◌, ◌==◌, ◌&&◌, nat_le, not, List, [], ◌∷◌, true, false, refl, ap, subst, ◌∙◌, arith, decimal}
use Rattle.std.specs.List.{list_all}
use Rattle.std.proofs.lemmas.Bool.{and_parts, leb-true, le-leb, ne_eqb}
use Rattle.std.proofs.lemmas.Fmt.{decimal_by_steps}
use Rattle.std.proofs.lemmas.List.Folds.{list_all-append}
use Rattle.mt_strace.specs.Lines.{is_digit}
use Rattle.mt_strace.specs.Printed.{lacks}

pub record IsDigit (b : ℕ) : Type 0 where
  pub low : 48 ≤ b
  pub high : b ≤ 57

pub digit_bounds : (b : ℕ) → is_digit b ≡ true → IsDigit b
digit_bounds b h =
    let parts = and_parts (nat_le 48 b) (nat_le b 57) h in
    record { low = leb-true 48 b parts.0; high = leb-true b 57 parts.1 }

digit_is : (k : ℕ) → k < 10 → is_digit (48 + k) ≡ true
digit_is k lt =
    let low : nat_le 48 (48 + k) ≡ true = le-leb 48 (48 + k) (omega arith) in
    let high : nat_le (48 + k) 57 ≡ true = le-leb (48 + k) 57 (omega arith) in
    rw (low, high) refl

-- a number is written in digits
pub decimal_digits : (n : ℕ) → n < 2 ^ 64 → list_all is_digit (decimal n) ≡ true
decimal_digits =
    decimal_by_steps (λ m ds. list_all is_digit ds ≡ true)
    (λ m l. let d : is_digit (48 + m) ≡ true = digit_is m l in ap (λ t. t && true) d)
    (λ m ds l h. let d : is_digit (48 + m % 10) ≡ true = digit_is (m % 10) (omega arith) in
    list_all-append is_digit ds ((48 + m % 10) ∷ []) ∙ ap (λ t. t && list_all is_digit ((48 + m % 10) ∷ [])) h ∙ ap (λ t. t && true) d)

-- and so has no other byte
digit_differs : (b c : ℕ) → is_digit c ≡ false → is_digit b ≡ true → not (b == c) ≡ true
digit_differs b c other h =
    let ne : (b == c) ≡ false = ne_eqb b c (λ e. let t : is_digit c ≡ true = subst (λ x. is_digit x ≡ true) e h in cc) in
    ap not ne

pub digits_lack : (c : ℕ) (ds : List ℕ) → is_digit c ≡ false → list_all is_digit ds ≡ true → lacks c ds ≡ true
digits_lack c [] other h = refl
digits_lack c (b ∷ ds) other h =
    let parts = and_parts (is_digit b) (list_all is_digit ds) h in
    let one = digit_differs b c other parts.0 in
    ap (λ t. t && lacks c ds) one ∙ digits_lack c ds other parts.1
