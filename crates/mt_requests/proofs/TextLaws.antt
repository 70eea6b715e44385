-- What a word without a fault is.
use Rattle.std.proofs.Common.{◌≡◌, ℕ, ◌==◌, ◌||◌, not, cond, nat_eq, nat_lt, nat_le, List, length, Bool, true, false, Option, Some, None, refl, sym, subst, ◌∙◌, arith}
use Rattle.std.proofs.Math.Dec.{eqb-suc-zero}
use Rattle.std.proofs.lemmas.Bool.Decides.{nat_tests}
use Rattle.std.specs.Option.{option_map, option_map_or}
use Rattle.std.specs.List.{list_all, list_any}
use Rattle.std.proofs.lemmas.Bool.{or_parts}
use Rattle.mt_skel.specs.declared.fault.Fault.TheVariants.{BadLine, TooLong}
use Rattle.mt_skel.specs.Outcome.{refuse_if}
use Rattle.mt_skel.proofs.OutcomeLaws.{not_refused}
use Rattle.mt_skel.specs.Names.{is_label}
use Rattle.mt_skel.specs.Escapes.{unescaped}
use Rattle.mt_skel.proofs.UnescapeLaws.{IsKept, all_kept}
use Rattle.mt_requests.specs.Requests.{text_length, label_fault, label_bytes}

abbrev pub is_nonzero : List ℕ → Bool
is_nonzero = list_all (λ b. not (b == 0))

abbrev KeepsZero : List ℕ → List ℕ → Type 0
KeepsZero w b = list_any (λ x. x == 0) w ≡ false → is_nonzero b ≡ true

-- no escape stands for a zero byte
nonzero_kept : IsKept KeepsZero
nonzero_kept = record {
  nil = λ _. refl;
  plain = λ x w b ne ih h. let parts = or_parts (x == 0) (list_any (λ x. x == 0) w) h in rw (parts.0, ih parts.1) refl;
  space = λ w b ih h. ih h;
  tab = λ w b ih h. ih h;
  newline = λ w b ih h. ih h;
  backslash = λ w b ih h. ih h;
}

abbrev KeepsLength : List ℕ → List ℕ → Type 0
KeepsLength w b = (nat_eq (length w) 0) ≡ nat_eq (length b) 0

-- an empty word alone stands for no bytes
length_kept : IsKept KeepsLength
length_kept = record {
  nil = refl;
  plain = λ x w b ne ih. eqb-suc-zero (length w) ∙ sym (eqb-suc-zero (length b));
  space = λ w b ih. eqb-suc-zero _ ∙ sym (eqb-suc-zero (length b));
  tab = λ w b ih. eqb-suc-zero _ ∙ sym (eqb-suc-zero (length b));
  newline = λ w b ih. eqb-suc-zero _ ∙ sym (eqb-suc-zero (length b));
  backslash = λ w b ih. eqb-suc-zero _ ∙ sym (eqb-suc-zero (length b));
}

pub length_same : (w b : List ℕ) → unescaped w ≡ Some b → (nat_eq (length w) 0) ≡ nat_eq (length b) 0
length_same = all_kept KeepsLength length_kept

-- a word that stands for bytes that can be a label or a path
pub record IsText (word bytes : List ℕ) : Type 0 where
  pub stands : unescaped word ≡ Some bytes
  pub nonempty : nat_eq (length bytes) 0 ≡ false
  pub nonzero : is_nonzero bytes ≡ true

counted : (c : Bool) (o : Option (List ℕ)) (n : ℕ) → cond c None (option_map (λ bytes. length bytes) o) ≡ Some n → (b : List ℕ) × (c ≡ false) × (o ≡ Some b) × (length b ≡ n)
counted true o n h = cc
counted false None n h = cc
counted false (Some b) n h = (b, refl, refl, cc)

pub text : (word : List ℕ) (n : ℕ) → text_length word ≡ Some n → (bytes : List ℕ) × IsText word bytes × (length bytes ≡ n)
text word n h =
    let r = counted (nat_eq (length word) 0 || list_any (λ b. b == 0) word) (unescaped word) n h in
    let parts = or_parts (nat_eq (length word) 0) (list_any (λ b. b == 0) word) r.1 in
    let b = r.0 in
    let stands : unescaped word ≡ Some b = r.2 in (
      b,
      record {
        stands = stands;
        nonempty = sym (all_kept KeepsLength length_kept word b stands) ∙ parts.0;
        nonzero = all_kept KeepsZero nonzero_kept word b stands parts.1;
      },
      r.3,
    )

-- the bytes that a word stands for
pub label_bytes-is : (word bytes : List ℕ) → unescaped word ≡ Some bytes → label_bytes word ≡ bytes
label_bytes-is word bytes h = rw h refl

-- from 1 to 255 bytes, of which none is zero, are a label
pub label_is : (bytes : List ℕ) → nat_eq (length bytes) 0 ≡ false → nat_lt 255 (length bytes) ≡ false → is_nonzero bytes ≡ true → is_label bytes ≡ true
label_is bytes some short nonzero =
    let low : nat_le 1 (length bytes) ≡ true = grind (arith, nat_tests) in
    let high : nat_le (length bytes) 255 ≡ true = grind (arith, nat_tests) in
    rw (low, high, nonzero) refl

-- the bytes of a word that is a label are one
pub good_label : (word bytes : List ℕ) → label_fault word ≡ None → unescaped word ≡ Some bytes → is_label bytes ≡ true
good_label word bytes h e = go (text_length word) refl h
  where
    go : (o : Option ℕ) → text_length word ≡ o → option_map_or (λ n. refuse_if (nat_lt 255 n) TooLong) o (Some BadLine) ≡ None → is_label bytes ≡ true
    go None is good = cc
    go (Some n) is good =
        let r = text word n is in
        let t = r.1 in
        let same : r.0 ≡ bytes = cc (t.stands, e) in
        let none : nat_lt 255 (length r.0) ≡ false = rw r.2 (not_refused (nat_lt 255 n) TooLong good) in
        subst (λ b. is_label b ≡ true) same (label_is r.0 t.nonempty none t.nonzero)
