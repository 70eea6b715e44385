-- What is read of the line of a call.
use Rattle.std.proofs.Common.{◌≡◌, ℕ, ◌+◌, ◌<◌, ◌≤◌, ◌^◌, ◌==◌, ◌&&◌, ◌||◌, nat_eq, nat_le, nat_lt, not, cond, List, [], ◌∷◌, ◌++◌, length, drop, get_or, Bool, true, false, Option, Some, None, inl, inr, refl, sym, ap, subst, ◌∙◌, arith, codes, decimal, bytes_eq, option_map, option_and_then}
use Rattle.std.specs.List.{list_all, list_any, onto_first, starts_with, ends_with}
use Rattle.std.proofs.lemmas.Bool.{and_parts, or_cases, not-true, leb-true, lt-leb, le-ltb, eqb-true, ne_eqb}
use Rattle.mt_lines.specs.Words.{pieces, number_in_text}
use Rattle.mt_lines.proofs.NumberLaws.{number_decimal}
use Rattle.mt_strace.specs.declared.call.TracedCall.{TracedCall}
use Rattle.mt_strace.specs.declared.line.StraceLine.{StraceLine}
use Rattle.mt_strace.specs.declared.line.StraceLine.TheVariants as line
use Rattle.mt_strace.specs.declared.result.CallResult.{CallResult}
use Rattle.mt_strace.specs.declared.unread.Unread.TheVariants as unread
use Rattle.mt_strace.specs.Cuts.{until_byte, without_spaces}
use Rattle.mt_strace.specs.Laws.{CallsAreRead}
use Rattle.mt_strace.specs.Lines.{with_process, process_of, is_digit, is_time_point, is_time, behind_time, without_time, is_letter, is_name_byte, is_call_name, no_call, call_with, call_at, named_call, call_of, begun_or_whole, body_of, is_message, headed, line_behind, strace_line_of}
use Rattle.mt_strace.specs.Outside.{cut_outside}
use Rattle.mt_strace.specs.Printed.{lacks, arguments_text, result_text, body_text, is_argument, IsResult}
use Rattle.mt_strace.specs.Strings.{stripped_end}
use Rattle.mt_strace.proofs.ArgumentLaws.{closed_read, arguments_read}
use Rattle.mt_strace.proofs.CutLaws.{cut_found}
use Rattle.mt_strace.proofs.DigitLaws.{digit_bounds, decimal_digits, digits_lack}
use Rattle.mt_strace.proofs.ResultLaws.{first_onto, result_read}

-- a letter is above all digits and signs that begin other lines
pub record IsLetter (b : ℕ) : Type 0 where
  pub low : 95 ≤ b

letter_bounds : (b : ℕ) → is_letter b ≡ true → IsLetter b
letter_bounds b h =
    elim (or_cases (nat_le 97 b && nat_le b 122) (b == 95) h) [
      | inl t ↦ (let range = leb-true 97 b (and_parts (nat_le 97 b) (nat_le b 122) t).0 in record { low = omega (arith, range) })
      | inr t ↦ (let same = eqb-true b 95 t in record { low = omega (arith, same) })
    ]

-- a name has no bracket
name_byte_lacks : (b : ℕ) → is_name_byte b ≡ true → not (b == 40) ≡ true
name_byte_lacks b h =
    let ne : (b == 40) ≡ false = ne_eqb b 40 (λ e. let t : is_name_byte 40 ≡ true = subst (λ x. is_name_byte x ≡ true) e h in cc) in
    ap not ne

name_bytes_lack : (name : List ℕ) → list_all is_name_byte name ≡ true → lacks 40 name ≡ true
name_bytes_lack [] h = refl
name_bytes_lack (b ∷ name) h =
    let parts = and_parts (is_name_byte b) (list_all is_name_byte name) h in
    ap (λ t. t && lacks 40 name) (name_byte_lacks b parts.0) ∙ name_bytes_lack name parts.1

name_lacks : (name : List ℕ) → is_call_name name ≡ true → lacks 40 name ≡ true
name_lacks [] h = refl
name_lacks (b ∷ name) h =
    let parts = and_parts (is_letter b) (list_all is_name_byte name) h in
    ap (λ t. t && lacks 40 name) (name_byte_lacks b (ap (λ t. t || is_digit b) parts.0)) ∙ name_bytes_lack name parts.1

-- a call behind the process
abbrev call_record : Option ℕ → List ℕ → List (List ℕ) → CallResult → TracedCall
call_record process name arguments result = record { process = process; name = name; arguments = arguments; result = result }

call_read : (process : Option ℕ) (c : TracedCall) → is_call_name c.name ≡ true → list_all is_argument c.arguments ≡ true → IsResult c.result
    → call_of process (body_text c) ≡ line.Call (call_record process c.name c.arguments c.result)
call_read process c name_is arguments_are result_is =
    let inside = arguments_text c.arguments in
    let rest = 32 ∷ 61 ∷ 32 ∷ result_text c.result in
    ap (named_call process (body_text c)) (cut_found 40 c.name (inside ++ 41 ∷ rest) (name_lacks c.name name_is))
    ∙ ap (λ t. cond {A = StraceLine} t (call_at process c.name (cut_outside 41 (inside ++ 41 ∷ rest))) (no_call (body_text c))) name_is
    ∙ ap (call_at process c.name) (closed_read c.arguments rest arguments_are)
    ∙ ap (call_with process c.name inside) (result_read c.result result_is)
    ∙ ap (λ a. line.Call (call_record process c.name a c.result)) (arguments_read c.arguments arguments_are)

-- no time stands in front of a letter
timeless : (text word behind : List ℕ) (t : Bool) → is_time word ≡ false → behind_time text (cond {A = Option (List ℕ × List ℕ)} t (Some (word, behind)) None) ≡ text
timeless text word behind true h = ap (λ t. cond {A = List ℕ} t (without_spaces behind) text) h
timeless text word behind false h = refl

letter_timeless : (b : ℕ) (rest : List ℕ) → IsLetter b → without_time (b ∷ rest) ≡ b ∷ rest
letter_timeless b rest is =
    let text = b ∷ rest in
    let word : until_byte 32 text ≡ b ∷ get_or (pieces 32 rest) 0 [] =
    ap (λ t. get_or (cond {A = List (List ℕ)} t ([] ∷ pieces 32 rest) (onto_first b (pieces 32 rest))) 0 []) (ne_eqb b 32 (λ e. omega (arith, is.low)))
    ∙ first_onto b (pieces 32 rest) in
    let no_digit : is_digit b ≡ false = ap (λ t. nat_le 48 b && t) (no_high b is) ∙ and_none (nat_le 48 b) in
    let later = get_or (pieces 32 rest) 0 [] in
    timeless text (until_byte 32 text) (drop (length (until_byte 32 text) + 1) text) (nat_lt (length (until_byte 32 text)) (length text))
    (ap is_time word ∙ ap (λ t. t && list_all (λ d. is_digit d || is_time_point d) later && list_any is_time_point later) no_digit)
  where
    no_high : (x : ℕ) → IsLetter x → nat_le x 57 ≡ false
    no_high x low_is = lt-leb x 57 (omega (arith, low_is.low))

    and_none : (t : Bool) → (t && false) ≡ false
    and_none true = refl
    and_none false = refl

-- what a letter begins is a call, if it does not end as one that is interrupted
letter_body : (process : Option ℕ) (b : ℕ) (rest : List ℕ) → IsLetter b → stripped_end (codes " <unfinished ...>") (b ∷ rest) ≡ None → stripped_end (codes " <detached ...>") (b ∷ rest) ≡ None
    → body_of process (b ∷ rest) ≡ call_of process (b ∷ rest)
letter_body process b rest is whole kept =
    let text = b ∷ rest in
    let no_plus : nat_eq 43 b ≡ false = ne_eqb 43 b (λ e. omega (arith, is.low)) in
    let no_angle : nat_eq 60 b ≡ false = ne_eqb 60 b (λ e. omega (arith, is.low)) in
    let no_dash : nat_eq 45 b ≡ false = ne_eqb 45 b (λ e. omega (arith, is.low)) in
    rw (no_plus, no_angle, no_dash) (ap (λ o. begun_or_whole process text o (stripped_end (codes " <detached ...>") text)) whole ∙ ap (begun_or_whole process text None) kept)

-- the process in front of a call is read
process_read : (w : List ℕ) (process b : ℕ) (rest : List ℕ) → list_all is_digit w ≡ true → number_in_text w ≡ Some process → IsLetter b → process_of (w ++ 32 ∷ b ∷ rest) ≡ (Some process, b ∷ rest)
unfolding number_in_text
process_read [] process b rest h says is = cc
process_read (d ∷ w) process b rest h says is =
    let range = digit_bounds d (and_parts (is_digit d) (list_all is_digit w) h).0 in
    let text = (d ∷ w) ++ 32 ∷ b ∷ rest in
    let no_bracket : nat_eq 91 d ≡ false = ne_eqb 91 d (λ e. omega (arith, range.high)) in
    let no_space : (b == 32) ≡ false = ne_eqb b 32 (λ e. omega (arith, is.low)) in
    rw no_bracket
    (ap (λ o. with_process text (option_and_then (λ (p : List ℕ × List ℕ). option_map (λ n. (n, p.1)) (number_in_text p.0)) o)) (cut_found 32 (d ∷ w) (b ∷ rest) (digits_lack 32 (d ∷ w) refl h))
    ∙ ap (λ o. with_process text (option_map (λ n. (n, b ∷ rest)) o)) says
    ∙ ap (λ t. (Some process, cond {A = List ℕ} t (without_spaces rest) (b ∷ rest))) no_space)

-- a digit begins no other line
digit_line : (d : ℕ) (rest : List ℕ) → is_digit d ≡ true → line_behind (d ∷ rest) ≡ headed (process_of (d ∷ rest))
digit_line d rest h =
    let range = digit_bounds d h in
    let text = d ∷ rest in
    let word : until_byte 32 text ≡ d ∷ get_or (pieces 32 rest) 0 [] =
    ap (λ t. get_or (cond {A = List (List ℕ)} t ([] ∷ pieces 32 rest) (onto_first d (pieces 32 rest))) 0 []) (ne_eqb d 32 (λ e. omega (arith, range.low)))
    ∙ first_onto d (pieces 32 rest) in
    let some : (length text == 0) ≡ false = ne_eqb (length text) 0 (λ e. omega arith) in
    let no_word : nat_eq d 115 ≡ false = ne_eqb d 115 (λ e. omega (arith, range.high)) in
    let no_slash : nat_eq 47 d ≡ false = ne_eqb 47 d (λ e. omega (arith, range.low)) in
    let no_type : nat_eq 116 d ≡ false = ne_eqb 116 d (λ e. omega (arith, range.high)) in
    let named : bytes_eq (until_byte 32 text) (codes "strace:") ≡ false =
    ap (λ x. bytes_eq x (codes "strace:")) word ∙ ap (λ t. t && bytes_eq (get_or (pieces 32 rest) 0 []) (codes "trace:")) no_word in
    let pathless : starts_with nat_eq text (codes "/") ≡ false = ap (λ t. t && true) no_slash in
    let silent : is_message text ≡ false =
    ap (λ t. t || bytes_eq (until_byte 32 text) (codes "strace:") || (starts_with nat_eq text (codes "/") && ends_with nat_eq (until_byte 32 text) (codes "/strace:"))) some
    ∙ ap (λ t. t || (starts_with nat_eq text (codes "/") && ends_with nat_eq (until_byte 32 text) (codes "/strace:"))) named
    ∙ ap (λ t. t && ends_with nat_eq (until_byte 32 text) (codes "/strace:")) pathless in
    ap (λ t. cond {A = StraceLine} t line.Silent (cond {A = StraceLine} (starts_with nat_eq text (codes "type=")) (line.Bad unread.Audit) (headed (process_of text)))) silent
    ∙ rw no_type refl

none_zero : (text : List ℕ) → lacks 0 text ≡ true → list_any (λ b. b == 0) text ≡ false
none_zero [] h = refl
none_zero (b ∷ text) h =
    let parts = and_parts (not (b == 0)) (lacks 0 text) h in
    ap (λ t. t || list_any (λ x. x == 0) text) (not-true (b == 0) parts.0) ∙ none_zero text parts.1

begun_line : (text : List ℕ) → length text ≤ 65536 → lacks 0 text ≡ true → strace_line_of text ≡ line_behind (without_spaces text)
begun_line text short bytes =
    ap (λ t. cond {A = StraceLine} t (line.Bad unread.TooLong) (cond {A = StraceLine} (list_any (λ b. b == 0) text) (line.Bad unread.Binary) (line_behind (without_spaces text)))) (le-ltb 65536 (length text) short)
    ∙ ap (λ t. cond {A = StraceLine} t (line.Bad unread.Binary) (line_behind (without_spaces text))) (none_zero text bytes)

digits_line : (w rest : List ℕ) (n : ℕ) → list_all is_digit w ≡ true → number_in_text w ≡ Some n → line_behind (without_spaces (w ++ rest)) ≡ headed (process_of (w ++ rest))
unfolding number_in_text
digits_line [] rest n h says = cc
digits_line (d ∷ w) rest n h says =
    let digit = (and_parts (is_digit d) (list_all is_digit w) h).0 in
    let range = digit_bounds d digit in
    ap (λ t. line_behind (cond {A = List ℕ} t (without_spaces (w ++ rest)) (d ∷ (w ++ rest)))) (ne_eqb d 32 (λ e. omega (arith, range.low))) ∙ digit_line d (w ++ rest) digit

-- a body that a letter begins, behind a process
letter_line : (process b : ℕ) (rest : List ℕ) → process < 2 ^ 64 → IsLetter b → length (decimal process ++ 32 ∷ b ∷ rest) ≤ 65536 → lacks 0 (decimal process ++ 32 ∷ b ∷ rest) ≡ true
    → stripped_end (codes " <unfinished ...>") (b ∷ rest) ≡ None → stripped_end (codes " <detached ...>") (b ∷ rest) ≡ None
    → strace_line_of (decimal process ++ 32 ∷ b ∷ rest) ≡ call_of (Some process) (b ∷ rest)
letter_line process b rest fits is short bytes whole kept =
    let w = decimal process in
    let digits = decimal_digits process fits in
    let says = number_decimal process fits in
    begun_line (w ++ 32 ∷ b ∷ rest) short bytes
    ∙ digits_line w (32 ∷ b ∷ rest) process digits says
    ∙ ap headed (process_read w process b rest digits says is)
    ∙ ap (body_of (Some process)) (letter_timeless b rest is)
    ∙ letter_body (Some process) b rest is whole kept

body_line : (process : ℕ) (name rest : List ℕ) → process < 2 ^ 64 → is_call_name name ≡ true → length (decimal process ++ 32 ∷ (name ++ rest)) ≤ 65536 → lacks 0 (decimal process ++ 32 ∷ (name ++ rest)) ≡ true
    → stripped_end (codes " <unfinished ...>") (name ++ rest) ≡ None → stripped_end (codes " <detached ...>") (name ++ rest) ≡ None
    → strace_line_of (decimal process ++ 32 ∷ (name ++ rest)) ≡ call_of (Some process) (name ++ rest)
body_line process [] rest fits name_is short bytes whole kept = cc
body_line process (b ∷ name) rest fits name_is short bytes whole kept =
    letter_line process b (name ++ rest) fits (letter_bounds b (and_parts (is_letter b) (list_all is_name_byte name) name_is).0) short bytes whole kept

pub calls_read : CallsAreRead
calls_read process c h =
    body_line process c.name (40 ∷ (arguments_text c.arguments ++ (codes ") = " ++ result_text c.result))) h.number h.name h.short h.bytes h.whole h.kept
    ∙ call_read (Some process) c h.name h.arguments h.result
    ∙ ap (λ p. line.Call (call_record p c.name c.arguments c.result)) (sym h.named)
