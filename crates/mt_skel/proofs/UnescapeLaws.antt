-- What a text of a line stands for, byte by byte.
use Rattle.std.proofs.Common.{◌≡◌, ◌≢◌, ℕ, zero, suc, ◌≤◌, ◌==◌, List, [], ◌∷◌, length, Bool, true, false, Option, Some, None, refl, sym, ◌∙◌, arith}
use Rattle.std.proofs.lemmas.Bool.{eqb-true, eqb-false}
use Rattle.std.proofs.lemmas.Bool.Decides.{nat_tests}
use Rattle.mt_skel.specs.Escapes.{unescaped, cons_to, byte_of_digits}
use Rattle.mt_skel.proofs.EscapeLaws.{unescaped-plain, unescaped-short, unescaped-nil, unescaped-escape}

-- a relation of words and bytes that each byte keeps, plain or escaped
pub record IsKept (P : List ℕ → List ℕ → Type 0) : Type 0 where
  pub nil : P [] []
  pub plain : (x : ℕ) (w b : List ℕ) → x ≢ 92 → P w b → P (x ∷ w) (x ∷ b)
  pub space : (w b : List ℕ) → P w b → P (92 ∷ 48 ∷ 52 ∷ 48 ∷ w) (32 ∷ b)
  pub tab : (w b : List ℕ) → P w b → P (92 ∷ 48 ∷ 49 ∷ 49 ∷ w) (9 ∷ b)
  pub newline : (w b : List ℕ) → P w b → P (92 ∷ 48 ∷ 49 ∷ 50 ∷ w) (10 ∷ b)
  pub backslash : (w b : List ℕ) → P w b → P (92 ∷ 49 ∷ 51 ∷ 52 ∷ w) (92 ∷ b)

-- bytes of which the first comes from o, and the others from rest
pub record IsBoth (o : Option ℕ) (rest : Option (List ℕ)) (b : List ℕ) : Type 0 where
  pub byte : ℕ
  pub bytes : List ℕ
  pub first : o ≡ Some byte
  pub later : rest ≡ Some bytes
  pub both : b ≡ byte ∷ bytes

pub after_first : (o : Option ℕ) (rest : Option (List ℕ)) (b : List ℕ) → cons_to o rest ≡ Some b → IsBoth o rest b
after_first (Some y) (Some bs) b h = record { byte = y; bytes = bs; first = refl; later = refl; both = cc }
after_first (Some y) None b h = cc
after_first None rest b h = cc

escaped_kept : (P : List ℕ → List ℕ → Type 0) → IsKept P → (d e f y : ℕ) (w b : List ℕ) → byte_of_digits d e f ≡ Some y → P w b → P (92 ∷ d ∷ e ∷ f ∷ w) (y ∷ b)
escaped_kept P k d e f y w b h p = grind (arith, nat_tests, k.space w b p, k.tab w b p, k.newline w b p, k.backslash w b p)

-- the same for a word that begins with a backslash, if it holds for shorter words
backslash_kept : (P : List ℕ → List ℕ → Type 0) → IsKept P → (n : ℕ) (xs b : List ℕ) → length xs ≤ n → ((w c : List ℕ) → length w ≤ n → unescaped w ≡ Some c → P w c) → unescaped (92 ∷ xs) ≡ Some b → P (92 ∷ xs) b
backslash_kept P k n [] b lt ih h = grind (arith, unescaped-short [])
backslash_kept P k n (d ∷ []) b lt ih h = grind (arith, unescaped-short (d ∷ []))
backslash_kept P k n (d ∷ e ∷ []) b lt ih h = grind (arith, unescaped-short (d ∷ e ∷ []))
backslash_kept P k n (d ∷ e ∷ f ∷ w) b lt ih h =
    let r = after_first (byte_of_digits d e f) (unescaped w) b (sym (unescaped-escape d e f w) ∙ h) in
    rw r.both (escaped_kept P k d e f r.byte w r.bytes r.first (ih w r.bytes (omega arith) r.later))

shorter_kept : (P : List ℕ → List ℕ → Type 0) → IsKept P → (n : ℕ) (w b : List ℕ) → length w ≤ n → unescaped w ≡ Some b → P w b
shorter_kept P k n [] b lt h = grind (arith, unescaped-nil [], k.nil)
shorter_kept P k zero (x ∷ xs) b lt h = absurd (omega arith)
shorter_kept P k (suc n) (x ∷ xs) b lt h = go (x == 92) refl (shorter_kept P k n)
  where
    go : (t : Bool) → (x == 92) ≡ t → ((w c : List ℕ) → length w ≤ n → unescaped w ≡ Some c → P w c) → P (x ∷ xs) b
    go true is ih =
        let e : x ≡ 92 = eqb-true x 92 is in
        rw e (backslash_kept P k n xs b (omega arith) ih (rw e at h))
    go false is ih =
        let ne : x ≢ 92 = eqb-false x 92 is in
        let r = after_first (Some x) (unescaped xs) b (sym (unescaped-plain x xs ne) ∙ h) in
        let same : b ≡ x ∷ r.bytes = cc in
        rw same (k.plain x xs r.bytes ne (ih xs r.bytes (omega arith) r.later))

-- what each byte keeps holds of a word and the bytes that it stands for
pub all_kept : (P : List ℕ → List ℕ → Type 0) → IsKept P → (w b : List ℕ) → unescaped w ≡ Some b → P w b
all_kept P k w b h = shorter_kept P k (length w) w b (omega arith) h
