-- What is read of the text of a descriptor.
use Rattle.std.proofs.Common.{◌≡◌, ℕ, ◌==◌, ◌&&◌, nat_eq, not, List, [], ◌∷◌, ◌++◌, Bool, true, false, Option, Some, None, refl, sym, ap, ◌∙◌, arith, codes, decimal, option_map, option_and_then}
use Rattle.std.specs.List.{list_all}
use Rattle.std.proofs.lemmas.Bool.{and_parts, not-true, ne_eqb}
use Rattle.std.proofs.lemmas.List.{append-nil}
use Rattle.mt_lines.specs.Words.{number_in_text}
use Rattle.mt_lines.proofs.NumberLaws.{number_decimal}
use Rattle.mt_strace.specs.declared.descriptor.Descriptor.{Descriptor}
use Rattle.mt_strace.specs.declared.descriptor.DescriptorNumber.{DescriptorNumber}
use Rattle.mt_strace.specs.declared.descriptor.DescriptorNumber.TheVariants as number
use Rattle.mt_strace.specs.declared.scan.Scan.{Scan}
use Rattle.mt_strace.specs.declared.scan.Within.TheVariants as within
use Rattle.mt_strace.specs.Descriptors.{number_of, path_behind_angle, deleted_or_there, descriptor_at, descriptor_of}
use Rattle.mt_strace.specs.Laws.{DescriptorsAreRead}
use Rattle.mt_strace.specs.Lines.{is_digit}
use Rattle.mt_strace.specs.Outside.{scan_start}
use Rattle.mt_strace.specs.Printed.{lacks, descriptor_number_text, descriptor_path_text, deleted_text, passes, is_argument, IsNumber, IsPath}
use Rattle.mt_strace.specs.Strings.{stripped_end}
use Rattle.mt_strace.proofs.CutLaws.{cut_found, cut_missing}
use Rattle.mt_strace.proofs.DigitLaws.{digit_bounds, decimal_digits, digits_lack}
use Rattle.mt_strace.proofs.EndLaws.{other_end, end_stripped}

-- digits are read as a number of an open descriptor
digits_read : (w : List ℕ) (n : ℕ) → list_all is_digit w ≡ true → number_in_text w ≡ Some n → number_of w ≡ Some (number.Open n)
unfolding number_in_text
digits_read [] n h says = cc
digits_read (b ∷ w) n h says =
    let range = digit_bounds b (and_parts (is_digit b) (list_all is_digit w) h).0 in
    let no_word : nat_eq b 65 ≡ false = ne_eqb b 65 (λ e. omega (arith, range.high)) in
    let no_sign : nat_eq 45 b ≡ false = ne_eqb 45 b (λ e. omega (arith, range.low)) in
    rw (no_word, no_sign) (ap (option_map (λ k. number.Open k)) says)

number_read : (n : DescriptorNumber) → IsNumber n → number_of (descriptor_number_text n) ≡ Some n
unfolding number_in_text
number_read number.CurrentDirectory h = refl
number_read (number.Open n) h = digits_read (decimal n) n (decimal_digits n h) (number_decimal n h)
number_read number.Negative h = refl

number_lacks : (n : DescriptorNumber) → IsNumber n → lacks 60 (descriptor_number_text n) ≡ true
number_lacks number.CurrentDirectory h = refl
number_lacks (number.Open n) h = digits_lack 60 (decimal n) refl (decimal_digits n h)
number_lacks number.Negative h = refl

-- a path and what tells that it was deleted
with_end : (end there path : List ℕ) → deleted_or_there (stripped_end end (path ++ end)) (stripped_end there (path ++ end)) ≡ Some (path, true)
with_end end there path = ap (λ o. deleted_or_there o (stripped_end there (path ++ end))) (end_stripped end path)

without_end : (front path : List ℕ) (a b : ℕ) → (a ≡ b → ⊥) → deleted_or_there (stripped_end (front ++ a ∷ []) (path ++ b ∷ [])) (stripped_end (b ∷ []) (path ++ b ∷ [])) ≡ Some (path, false)
without_end front path a b ne =
    ap (λ o. deleted_or_there o (stripped_end (b ∷ []) (path ++ b ∷ []))) (other_end front path a b ne) ∙ ap (λ o. deleted_or_there None o) (end_stripped (b ∷ []) path)

deleted_read : (path : List ℕ) → path_behind_angle (path ++ codes ">(deleted)") ≡ Some (path, true)
deleted_read path = with_end (codes ">(deleted)") (codes ">") path

there_read : (path : List ℕ) → path_behind_angle (path ++ 62 ∷ []) ≡ Some (path, false)
there_read path = without_end (codes ">(deleted") path 41 62 (λ e. cc)

path_read : (path : List ℕ) (is_deleted : Bool) → path_behind_angle (path ++ 62 ∷ deleted_text is_deleted) ≡ Some (path, is_deleted)
path_read path true = deleted_read path
path_read path false = there_read path

abbrev descriptor_with : DescriptorNumber → Option (List ℕ) → Bool → Descriptor
descriptor_with n path is_deleted = record { number = n; path = path; is_deleted = is_deleted }

parts_read : (n : DescriptorNumber) (path : Option (List ℕ)) (is_deleted : Bool) → IsNumber n → IsPath path is_deleted
    → descriptor_of (descriptor_number_text n ++ descriptor_path_text path is_deleted) ≡ Some (descriptor_with n path is_deleted)
parts_read n None is_deleted number_is path_is =
    let text = descriptor_number_text n in
    ap descriptor_of (append-nil text)
    ∙ ap (λ o. descriptor_at o text) (cut_missing 60 text (number_lacks n number_is))
    ∙ ap (option_map (λ k. descriptor_with k None false)) (number_read n number_is)
    ∙ ap (λ b. Some (descriptor_with n None b)) (sym path_is)
parts_read n (Some path) is_deleted number_is path_is =
    let text = descriptor_number_text n in
    let behind = path ++ 62 ∷ deleted_text is_deleted in
    ap (λ o. descriptor_at o (text ++ 60 ∷ behind)) (cut_found 60 text behind (number_lacks n number_is))
    ∙ ap (λ o. option_and_then (λ k. option_map (λ (p : List ℕ × Bool). descriptor_with k (Some p.0) p.1) (path_behind_angle behind)) o) (number_read n number_is)
    ∙ ap (λ o. option_map (λ (p : List ℕ × Bool). descriptor_with n (Some p.0) p.1) o) (path_read path is_deleted)

-- a scan passes digits, and a path up to what closes it
digits_passed : (w rest : List ℕ) → list_all is_digit w ≡ true → passes scan_start (w ++ rest) ≡ passes scan_start rest
digits_passed [] rest h = refl
digits_passed (b ∷ w) rest h =
    let parts = and_parts (is_digit b) (list_all is_digit w) h in
    let range = digit_bounds b parts.0 in
    let differs : (c : ℕ) → is_digit c ≡ false → (b == c) ≡ false = λ c other. ne_eqb b c (λ e. not_digit b c e other parts.0) in
    rw (differs 44 refl, differs 41 refl, differs 34 refl, differs 60 refl, differs 47 refl, differs 40 refl, differs 91 refl, differs 123 refl, differs 93 refl, differs 125 refl)
    (digits_passed w rest parts.1)
  where
    not_digit : (x y : ℕ) → x ≡ y → is_digit y ≡ false → is_digit x ≡ true → ⊥
    not_digit x y e other is = let t : is_digit y ≡ true = ap is_digit (sym e) ∙ is in cc

abbrev in_path : Scan
in_path = record { within = within.Path; depth = 0 }

path_passed : (path rest : List ℕ) → lacks 62 path ≡ true → passes in_path (path ++ 62 ∷ rest) ≡ passes scan_start rest
path_passed [] rest h = refl
path_passed (b ∷ path) rest h =
    let parts = and_parts (not (b == 62)) (lacks 62 path) h in
    let e = not-true (b == 62) parts.0 in
    rw e (path_passed path rest parts.1)

end_passed : (path : Option (List ℕ)) (is_deleted : Bool) → IsPath path is_deleted → passes scan_start (descriptor_path_text path is_deleted) ≡ true
end_passed None is_deleted h = refl
end_passed (Some path) true h = path_passed path (codes "(deleted)") h.1
end_passed (Some path) false h = path_passed path [] h.1

digits_argument : (w rest : List ℕ) (n : ℕ) → list_all is_digit w ≡ true → number_in_text w ≡ Some n → passes scan_start rest ≡ true → is_argument (w ++ rest) ≡ true
unfolding number_in_text
digits_argument [] rest n h says passed = cc
digits_argument (b ∷ w) rest n h says passed =
    let range = digit_bounds b (and_parts (is_digit b) (list_all is_digit w) h).0 in
    let no_space : (b == 32) ≡ false = ne_eqb b 32 (λ e. omega (arith, range.low)) in
    ap (λ t. not t && passes scan_start ((b ∷ w) ++ rest)) no_space ∙ digits_passed (b ∷ w) rest h ∙ passed

parts_argument : (n : DescriptorNumber) (rest : List ℕ) → IsNumber n → passes scan_start rest ≡ true → is_argument (descriptor_number_text n ++ rest) ≡ true
parts_argument number.CurrentDirectory rest h passed = passed
parts_argument (number.Open n) rest h passed = digits_argument (decimal n) rest n (decimal_digits n h) (number_decimal n h) passed
parts_argument number.Negative rest h passed = passed

pub descriptors_read : DescriptorsAreRead
descriptors_read d h = (
  parts_read d.number d.path d.is_deleted h.0 h.1,
  parts_argument d.number (descriptor_path_text d.path d.is_deleted) h.0 (end_passed d.path d.is_deleted h.1),
)
