-- What is read of the text of a string.
use Rattle.std.proofs.Common.{◌≡◌, ℕ, ◌==◌, ◌&&◌, ◌||◌, not, nat_lt, cond, List, [], ◌∷◌, ◌++◌, Bool, true, false, Option, Some, None, refl, sym, ap, ◌∙◌, append_assoc, codes, if◌then◌else◌, option_map, option_and_then}
use Rattle.std.specs.List.{list_all, flat_map}
use Rattle.std.proofs.lemmas.Bool.{agree_below_at, and_parts, eqb-true, ltb-true}
use Rattle.std.proofs.lemmas.Option.{some_pair_parts, same_Some}
use Rattle.mt_strace.specs.declared.scan.Scan.{Scan}
use Rattle.mt_strace.specs.declared.scan.Within.{Within}
use Rattle.mt_strace.specs.declared.scan.Within.TheVariants as within
use Rattle.mt_strace.specs.declared.string.Escape.{Escape}
use Rattle.mt_strace.specs.declared.string.Escape.TheVariants as escape
use Rattle.mt_strace.specs.declared.string.EscapeStep.{EscapeStep}
use Rattle.mt_strace.specs.Laws.{StringsAreRead}
use Rattle.mt_strace.specs.Outside.{scan_after, is_outside}
use Rattle.mt_strace.specs.Printed.{byte_text, passes}
use Rattle.mt_strace.specs.Strings.{ToldString, escape_step, given_bytes, onto_bytes, bytes_from, unescaped_bytes, stripped_end, whole_or_cut, between_quotes, string_of}
use Rattle.mt_strace.proofs.EndLaws.{other_end, end_stripped}
use Rattle.mt_strace.proofs.StepLaws.{onto_both, onto_none}

-- what a text gives, and what it says of the byte after it
abbrev joined : EscapeStep → Option (List ℕ × Escape) → Option (List ℕ × Escape)
joined s None = None
joined s (Some p) = Some (given_bytes s.first s.second ++ p.0, p.1)

abbrev told : Escape → List ℕ → Option (List ℕ × Escape)
told e [] = Some ([], e)
told e (b ∷ text) = option_and_then (λ (s : EscapeStep). joined s (told s.next text)) (escape_step e b)

abbrev GoesOn : List ℕ → Type 0
GoesOn text = (e : Escape) (out : List ℕ) (after : Escape) (rest : List ℕ) → told e text ≡ Some (out, after) → bytes_from e (text ++ rest) ≡ onto_bytes out (bytes_from after rest)

joined_on : (s : EscapeStep) (text out : List ℕ) (after : Escape) (rest : List ℕ) (p : Option (List ℕ × Escape)) → told s.next text ≡ p → joined s p ≡ Some (out, after) → GoesOn text
    → onto_bytes (given_bytes s.first s.second) (bytes_from s.next (text ++ rest)) ≡ onto_bytes out (bytes_from after rest)
joined_on s text out after rest None is h ih = cc
joined_on s text out after rest (Some p) is h ih =
    let parts = some_pair_parts (given_bytes s.first s.second ++ p.0) out p.1 after h in
    ap (onto_bytes (given_bytes s.first s.second)) (ih s.next p.0 p.1 rest is)
    ∙ onto_both (given_bytes s.first s.second) p.0 (bytes_from p.1 rest)
    ∙ ap (λ x. onto_bytes x (bytes_from p.1 rest)) parts.0
    ∙ ap (λ x. onto_bytes out (bytes_from x rest)) parts.1

step_on : (o : Option EscapeStep) (text out : List ℕ) (after : Escape) (rest : List ℕ) → option_and_then (λ (s : EscapeStep). joined s (told s.next text)) o ≡ Some (out, after) → GoesOn text
    → option_and_then (λ (s : EscapeStep). onto_bytes (given_bytes s.first s.second) (bytes_from s.next (text ++ rest))) o ≡ onto_bytes out (bytes_from after rest)
step_on None text out after rest h ih = cc
step_on (Some s) text out after rest h ih = joined_on s text out after rest (told s.next text) refl h ih

told_on : (text : List ℕ) → GoesOn text
told_on [] e out after rest h =
    let parts = some_pair_parts [] out e after h in
    sym (onto_none (bytes_from e rest)) ∙ ap (λ x. onto_bytes x (bytes_from e rest)) parts.0 ∙ ap (λ x. onto_bytes out (bytes_from x rest)) parts.1
told_on (b ∷ text) e out after rest h = step_on (escape_step e b) text out after rest h (told_on text)

-- the text of each byte gives that byte alone
abbrev is_plain : Escape → Bool
is_plain escape.Plain = true
is_plain e = false

abbrev is_one : ℕ → List ℕ → Bool
is_one b [] = false
is_one b (n ∷ []) = n == b
is_one b (n ∷ m ∷ rest) = false

abbrev gives_alone : ℕ → Option (List ℕ × Escape) → Bool
gives_alone b None = false
gives_alone b (Some p) = is_one b p.0 && is_plain p.1

one_is : (b : ℕ) (out : List ℕ) → is_one b out ≡ true → out ≡ b ∷ []
one_is b [] h = cc
one_is b (n ∷ []) h = ap (λ x. x ∷ []) (eqb-true n b h)
one_is b (n ∷ m ∷ rest) h = cc

plain_is : (e : Escape) → is_plain e ≡ true → e ≡ escape.Plain
plain_is escape.Plain h = refl
plain_is escape.Begun h = cc
plain_is (escape.OneDigit n) h = cc
plain_is (escape.TwoDigits n) h = cc
plain_is escape.Hex h = cc
plain_is (escape.HexDigit n) h = cc

alone_is : (b : ℕ) (o : Option (List ℕ × Escape)) → gives_alone b o ≡ true → o ≡ Some (b ∷ [], escape.Plain)
alone_is b None h = cc
alone_is b (Some p) h =
    let parts = and_parts (is_one b p.0) (is_plain p.1) h in
    ap (λ x. Some (x, p.1)) (one_is b p.0 parts.0) ∙ ap (λ x. Some (b ∷ [], x)) (plain_is p.1 parts.1)

byte_told : (b : ℕ) → nat_lt b 256 ≡ true → told escape.Plain (byte_text b) ≡ Some (b ∷ [], escape.Plain)
byte_told b lt =
    alone_is b (told escape.Plain (byte_text b)) (agree_below_at (λ n. gives_alone n (told escape.Plain (byte_text n))) (λ n. true) 256 b refl (ltb-true b 256 lt))

-- so do those of several bytes
bytes_told : (bytes : List ℕ) → list_all (λ b. nat_lt b 256) bytes ≡ true → unescaped_bytes (flat_map byte_text bytes) ≡ Some bytes
bytes_told [] h = refl
bytes_told (b ∷ bytes) h =
    let parts = and_parts (nat_lt b 256) (list_all (λ x. nat_lt x 256) bytes) h in
    told_on (byte_text b) escape.Plain (b ∷ []) escape.Plain (flat_map byte_text bytes) (byte_told b parts.0)
    ∙ ap (onto_bytes (b ∷ [])) (bytes_told bytes parts.1)

between_told : (text : List ℕ) → between_quotes (34 ∷ (text ++ 34 ∷ [])) ≡ Some (text, true)
between_told text =
    let cut : stripped_end (codes "\"...") (text ++ 34 ∷ []) ≡ None = other_end (34 ∷ 46 ∷ 46 ∷ []) text 46 34 (λ e. cc) in
    ap (λ x. whole_or_cut x (stripped_end (codes "\"") (text ++ 34 ∷ []))) cut ∙ ap (λ x. option_map (λ y. (y, true)) x) (end_stripped (34 ∷ []) text)

-- a scan that stands in a string stands in it again after the text of a byte
abbrev over : Scan → List ℕ → Option Scan
over s [] = Some s
over s (b ∷ text) = if is_outside s && (b == 44 || b == 41) then None else over (scan_after s b) text

abbrev in_string : Scan
in_string = record { within = within.String; depth = 0 }

abbrev is_string : Within → Bool
is_string within.String = true
is_string w = false

abbrev stays : Option Scan → Bool
stays None = false
stays (Some s) = is_string s.within && s.depth == 0

string_is : (w : Within) → is_string w ≡ true → w ≡ within.String
string_is within.Brackets h = cc
string_is within.Slash h = cc
string_is within.Comment h = cc
string_is within.Asterisk h = cc
string_is within.String h = refl
string_is within.Backslash h = cc
string_is within.Path h = cc

scan_is : (s : Scan) → is_string s.within ≡ true → s.depth ≡ 0 → s ≡ in_string
scan_is s within_is depth_is =
    ap (λ w. record { within = w; depth = s.depth }) (string_is s.within within_is) ∙ ap (λ d. record { within = within.String; depth = d }) depth_is

stays_is : (o : Option Scan) → stays o ≡ true → o ≡ Some in_string
stays_is None h = cc
stays_is (Some s) h =
    let parts = and_parts (is_string s.within) (s.depth == 0) h in
    ap (λ x. Some x) (scan_is s parts.0 (eqb-true s.depth 0 parts.1))

over_on : (text : List ℕ) (s after : Scan) (rest : List ℕ) → over s text ≡ Some after → passes s (text ++ rest) ≡ passes after rest
over_on [] s after rest h = ap (λ (x : Scan). passes x rest) (same_Some s after h)
over_on (b ∷ text) s after rest h = go (is_outside s && (b == 44 || b == 41)) h (over_on text (scan_after s b) after rest)
  where
    go : (t : Bool) → cond t None (over (scan_after s b) text) ≡ Some after → (over (scan_after s b) text ≡ Some after → passes (scan_after s b) (text ++ rest) ≡ passes after rest)
        → (not t && passes (scan_after s b) (text ++ rest)) ≡ passes after rest
    go true is ih = cc
    go false is ih = ih is

byte_passed : (b : ℕ) (rest : List ℕ) → nat_lt b 256 ≡ true → passes in_string (byte_text b ++ rest) ≡ passes in_string rest
byte_passed b rest lt =
    over_on (byte_text b) in_string in_string rest (stays_is (over in_string (byte_text b)) (agree_below_at (λ n. stays (over in_string (byte_text n))) (λ n. true) 256 b refl (ltb-true b 256 lt)))

bytes_passed : (bytes : List ℕ) → list_all (λ b. nat_lt b 256) bytes ≡ true → passes in_string (flat_map byte_text bytes ++ 34 ∷ []) ≡ true
bytes_passed [] h = refl
bytes_passed (b ∷ bytes) h =
    let parts = and_parts (nat_lt b 256) (list_all (λ x. nat_lt x 256) bytes) h in
    ap (passes in_string) (append_assoc (byte_text b) (flat_map byte_text bytes) (34 ∷ []))
    ∙ byte_passed b (flat_map byte_text bytes ++ 34 ∷ []) parts.0
    ∙ bytes_passed bytes parts.1

abbrev told_string : List ℕ → Bool → ToldString
told_string bytes is_whole = record { bytes = bytes; is_whole = is_whole }

string_read : (text bytes : List ℕ) → between_quotes (34 ∷ (text ++ 34 ∷ [])) ≡ Some (text, true) → unescaped_bytes text ≡ Some bytes
    → string_of (34 ∷ (text ++ 34 ∷ [])) ≡ Some (record { bytes = bytes; is_whole = true })
string_read text bytes h k =
    ap (λ o. option_and_then (λ (p : List ℕ × Bool). option_map (λ (b : List ℕ). told_string b p.1) (unescaped_bytes p.0)) o) h
    ∙ ap (λ o. option_map (λ (b : List ℕ). told_string b true) o) k

pub strings_read : StringsAreRead
strings_read bytes h =
    (string_read (flat_map byte_text bytes) bytes (between_told (flat_map byte_text bytes)) (bytes_told bytes h), bytes_passed bytes h)
