-- A word is a number exactly if it is what is written of one.
use Rattle.std.proofs.Common.{◌≡◌, ◌≢◌, ℕ, zero, suc, ◌+◌, ◌-◌, ◌*◌, ◌^◌, ◌<◌, ◌≤◌, ◌==◌, ◌&&◌, nat_le, nat_lt, cond, List, [], ◌∷◌, length, get_or, Bool, true, false, Option, Some, None, MatchOption, refl, sym, ap, subst, ◌∙◌, arith, decimal}
use Rattle.std.specs.Char.{digit_value}
use Rattle.std.specs.Int.{IsInRange}
use Rattle.std.specs.Str.Parse.{AllDigits, digits_value, digits_value_after}
use Rattle.std.proofs.lemmas.Bool.{ne_eqb}
use Rattle.std.proofs.lemmas.Bool.Decides.{nat_tests}
use Rattle.std.proofs.lemmas.Str.{digit_value_digit}
use Rattle.std.proofs.lemmas.Str.Parse.{digit_from_value, numerals_by_value, tells_digits}
use Rattle.std.proofs.lemmas.Fmt.{decimal_is_IsNumeral, decimal-digits_value, first_decimal, decimal_digit}
use Rattle.mt_lines.specs.Words.{number_in_text, number_from, with_digit}
use Rattle.mt_lines.proofs.WordLaws.{number_from_none}

given : (b : Bool) (x k : ℕ) → cond b (Some x) None ≡ Some k → (b ≡ true) × (x ≡ k)
given true x k h = (refl, cc)
given false x k h = cc

next_is : (m d k : ℕ) → with_digit m d ≡ Some k → IsInRange 48 57 d × (k ≡ m * 10 + digit_value d) × (k < 2 ^ 64)
next_is m d k h =
    let r = given (nat_le 48 d && nat_le d 57 && nat_lt (10 * m + (d - 48)) (2 ^ 64)) (10 * m + (d - 48)) k h in
    let all = r.0 in
    let low : 48 ≤ d = grind (arith, nat_tests) in
    let high : d ≤ 57 = grind (arith, nat_tests) in
    let small : 10 * m + (d - 48) < 2 ^ 64 = grind (arith, nat_tests) in
    let e = digit_value_digit d (low, high) in
    ((low, high), omega (arith, r.1, e), omega (arith, r.1, small))

-- digits that were read after a number
digits_read : (m n : ℕ) (ds : List ℕ) → m < 2 ^ 64 → number_from (Some m) ds ≡ Some n → AllDigits 10 ds × (digits_value_after 10 m ds ≡ n) × (n < 2 ^ 64)
digits_read m n [] lt h = let e : m ≡ n = cc in (tt, e, subst (λ x. x < 2 ^ 64) e lt)
digits_read m n (d ∷ ds) lt h = go (with_digit m d) refl h (digits_read (m * 10 + digit_value d) n ds)
  where
    go : (o : Option ℕ) → with_digit m d ≡ o → number_from o ds ≡ Some n
        → (m * 10 + digit_value d < 2 ^ 64 → number_from (Some (m * 10 + digit_value d)) ds ≡ Some n → AllDigits 10 ds × (digits_value_after 10 (m * 10 + digit_value d) ds ≡ n) × (n < 2 ^ 64))
        → AllDigits 10 (d ∷ ds) × (digits_value_after 10 m (d ∷ ds) ≡ n) × (n < 2 ^ 64)
    go None is h ih = let e : None ≡ Some n = sym (number_from_none ds) ∙ h in cc
    go (Some k) is h ih =
        let s = next_is m d k is in
        let r = ih (subst (λ x. x < 2 ^ 64) s.1 s.2) (ap (λ x. number_from (Some x) ds) (sym s.1) ∙ h) in
        let v = digit_value_digit d s.0 in
        ((omega (arith, v, s.0.0, s.0.1), r.0), r.1, r.2)

le_value_after : (n : ℕ) (ds : List ℕ) → n ≤ digits_value_after 10 n ds
le_value_after n [] = omega arith
le_value_after n (c ∷ cs) = omega (arith, le_value_after (n * 10 + digit_value c) cs)

next_digit : (m d : ℕ) → digit_value d < 10 → m * 10 + digit_value d < 2 ^ 64 → with_digit m d ≡ Some (m * 10 + digit_value d)
next_digit m d small lt =
    let r = digit_from_value d small in
    let v = digit_value_digit d r in
    let same : 10 * m + (d - 48) ≡ m * 10 + digit_value d = omega (arith, v) in
    let low : nat_le 48 d ≡ true = grind (arith, nat_tests) in
    let high : nat_le d 57 ≡ true = grind (arith, nat_tests) in
    let fits : nat_lt (10 * m + (d - 48)) (2 ^ 64) ≡ true = grind (arith, nat_tests) in
    let all : (nat_le 48 d && nat_le d 57 && nat_lt (10 * m + (d - 48)) (2 ^ 64)) ≡ true = rw (low, high, fits) refl in
    ap (λ b. cond b (Some (10 * m + (d - 48))) None) all ∙ ap Some same

read_digits : (m : ℕ) (ds : List ℕ) → AllDigits 10 ds → digits_value_after 10 m ds < 2 ^ 64 → number_from (Some m) ds ≡ Some (digits_value_after 10 m ds)
read_digits m [] all lt = refl
read_digits m (d ∷ ds) all lt =
    ap (λ o. number_from o ds) (next_digit m d all.0 (omega (arith, le_value_after (m * 10 + digit_value d) ds)))
    ∙ read_digits (m * 10 + digit_value d) ds all.1 lt

-- a word that is a number is what is written of it
pub number_is : (w : List ℕ) (n : ℕ) → number_in_text w ≡ Some n → (w ≡ decimal n) × (n < 2 ^ 64)
unfolding number_in_text
number_is [] n h = cc
number_is (d ∷ []) n h =
    let r = digits_read 0 n (d ∷ []) (omega arith) h in
    (sym (decimal-digits_value (numerals_by_value (AllDigits 10) tells_digits) (d ∷ []) r.0 (omega arith) (λ e. refl) (subst (λ x. x < 2 ^ 64) (sym r.1) r.2)) ∙ ap decimal r.1, r.2)
number_is (d ∷ e ∷ ds) n h = go (d == 48) refl h
  where
    go : (b : Bool) → (d == 48) ≡ b → cond b None (number_from (Some 0) (d ∷ e ∷ ds)) ≡ Some n → ((d ∷ e ∷ ds) ≡ decimal n) × (n < 2 ^ 64)
    go true is h = cc
    go false is h =
        let r = digits_read 0 n (d ∷ e ∷ ds) (omega arith) h in
        let lead : d ≡ 48 → length (d ∷ e ∷ ds) ≡ 1 = λ z. absurd (let t : (48 == 48) ≡ false = subst (λ x. (x == 48) ≡ false) z is in cc) in
        (sym (decimal-digits_value (numerals_by_value (AllDigits 10) tells_digits) (d ∷ e ∷ ds) r.0 (omega arith) lead (subst (λ x. x < 2 ^ 64) (sym r.1) r.2)) ∙ ap decimal r.1, r.2)

number_of_digits : (w : List ℕ) → 0 < length w → AllDigits 10 w → (get_or w 0 0 ≡ 48 → length w ≡ 1) → digits_value 10 w < 2 ^ 64 → number_in_text w ≡ Some (digits_value 10 w)
unfolding number_in_text
number_of_digits [] some all lead lt = absurd (omega arith)
number_of_digits (d ∷ []) some all lead lt = read_digits 0 (d ∷ []) all lt
number_of_digits (d ∷ e ∷ ds) some all lead lt =
    let no : (d == 48) ≡ false = ne_eqb d 48 (λ z. let one : length (d ∷ e ∷ ds) ≡ 1 = lead z in omega arith) in
    ap (λ b. cond b None (number_from (Some 0) (d ∷ e ∷ ds))) no ∙ read_digits 0 (d ∷ e ∷ ds) all lt

-- what is written of a number is one
pub number_decimal : (n : ℕ) → n < 2 ^ 64 → number_in_text (decimal n) ≡ Some n
number_decimal n lt =
    let k = decimal_is_IsNumeral n lt in
    number_of_digits (decimal n) k.0.0 k.0.1 (lead n lt) (subst (λ x. x < 2 ^ 64) (sym k.1) lt) ∙ ap Some k.1
  where
    lead : (n : ℕ) → n < 2 ^ 64 → get_or (decimal n) 0 0 ≡ 48 → length (decimal n) ≡ 1
    lead zero lt e = ap (λ ds. length ds) (decimal_digit 0 (omega arith))
    lead (suc n) lt e = absurd (let f = first_decimal (suc n) (omega arith) lt in omega arith)

-- both ways, for what a reader answers
pub number_exact : (w : List ℕ) (o : Option ℕ) → o ≡ number_in_text w → MatchOption o ((n : ℕ) → n < 2 ^ 64 → w ≢ decimal n) (λ n. w ≡ decimal n)
number_exact w None h = λ n lt e. let s : None ≡ Some n = h ∙ ap number_in_text e ∙ number_decimal n lt in cc
number_exact w (Some n) h = (number_is w n (sym h)).0
