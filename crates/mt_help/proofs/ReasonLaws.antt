-- A line of which each word is right as its argument is not refused as bad, unless an option is there twice.
use Rattle.std.proofs.Common.{◌≡◌, ℕ, Bool, true, false, cond, nat_lt, not, ◌||◌, ◌&&◌, List, [], ◌∷◌, drop, Option, Some, None, is_some, Result, Ok, Err, fold, refl, sym, ap, ◌∙◌}
use Rattle.std.specs.List.{list_all, list_any}
use Rattle.std.specs.Option.{option_map_or, option_or}
use Rattle.mt_skel.specs.declared.fault.Fault.{Fault}
use Rattle.mt_skel.specs.declared.fault.Fault.TheVariants.{BadLine, TooLong, BadPath}
use Rattle.mt_skel.specs.Outcome.{refuse_if, first_fault}
use Rattle.mt_lines.specs.Words.{words}
use Rattle.mt_protocol.specs.Verbs.{verb_of, verb_arguments, first_of}
use Rattle.mt_protocol.specs.declared.argument.Argument.{Argument}
use Rattle.mt_protocol.specs.declared.argument.Argument.TheVariants.{Space, Scope, Count, Label, Path, Less, Lock, Recursive, Attributes, Setting}
use Rattle.mt_protocol.specs.declared.verb.Verb.{Verb}
use Rattle.mt_protocol.specs.declared.verb.Verb.TheVariants as verb
use Rattle.mt_requests.specs.Options.{option_keys, is_repeated, change_of}
use Rattle.mt_requests.specs.declared.request.Request.{Request}
use Rattle.mt_requests.specs.Requests.{text_length, label_fault, label_bytes, is_path, has_long_piece, path_fault, is_bad_line, is_too_long, prior_of_two, prior_fault, word_fault, are_counted, word_faults, words_fault, request_with, read_by, by_words, request_of}
use Rattle.mt_help.specs.Reasons.{is_refused_as_bad, HasVerb, is_right_option, is_right, are_right}
use Rattle.std.proofs.lemmas.Bool.{and_parts}
use Rattle.mt_help.proofs.OptionLaws.{change_right}

-- a word that stands for a text is not refused as a bad line
too_long : (b : Bool) → is_bad_line (refuse_if b TooLong) ≡ false
too_long true = refl
too_long false = refl

too_long_or_bad : (a b : Bool) → is_bad_line (first_fault (refuse_if a TooLong ∷ refuse_if b BadPath ∷ [])) ≡ false
too_long_or_bad true b = refl
too_long_or_bad false true = refl
too_long_or_bad false false = refl

text_fine : (length : Option ℕ) (f : ℕ → Option Fault) → ((n : ℕ) → is_bad_line (f n) ≡ false) → is_some length ≡ true → not (is_bad_line (option_map_or f length (Some BadLine))) ≡ true
text_fine (Some n) f each e = ap not (each n)
text_fine None f each e = cc

pub label_fine : (word : List ℕ) → is_some (text_length word) ≡ true → is_right Label word ≡ true
label_fine word e = text_fine (text_length word) (λ n. refuse_if (nat_lt 255 n) TooLong) (λ n. too_long (nat_lt 255 n)) e

pub path_fine : (word : List ℕ) → is_some (text_length word) ≡ true → is_right Path word ≡ true
path_fine word e =
    text_fine (text_length word) (λ n. first_fault (refuse_if (nat_lt 4095 n || has_long_piece (label_bytes word)) TooLong ∷ refuse_if (not (is_path (label_bytes word))) BadPath ∷ []))
    (λ n. too_long_or_bad (nat_lt 4095 n || has_long_piece (label_bytes word)) (not (is_path (label_bytes word)))) e

-- nor are words of which none is
chosen_fine : (p q s t : Bool) (a b : Option Fault) → p ≡ false → q ≡ false → is_bad_line a ≡ false → is_bad_line b ≡ false
    → is_bad_line (cond {A = Option Fault} p a (cond {A = Option Fault} q b (cond {A = Option Fault} s a (cond {A = Option Fault} t b (option_or a b))))) ≡ false
chosen_fine false false true t a b g h e f = e
chosen_fine false false false true a b g h e f = f
chosen_fine false false false false (Some x) b g h e f = e
chosen_fine false false false false None b g h e f = f
chosen_fine true q s t a b g h e f = cc
chosen_fine false true s t a b g h e f = cc

prior_fine : (a b : Option Fault) → is_bad_line a ≡ false → is_bad_line b ≡ false → is_bad_line (prior_of_two a b) ≡ false
prior_fine a b e f = chosen_fine (is_bad_line a) (is_bad_line b) (is_too_long a) (is_too_long b) a b e f e f

not_true : (b : Bool) → not b ≡ true → b ≡ false
not_true true e = cc
not_true false e = refl

-- words none of which is an option
abbrev has_settings : List Argument → Bool
has_settings [] = false
has_settings (Setting ∷ arguments) = true
has_settings (argument ∷ arguments) = has_settings arguments

faults_fine : (a : Option Fault) (arguments : List Argument) (words : List (List ℕ)) → has_settings arguments ≡ false → are_right arguments words ≡ true → is_bad_line a ≡ false
    → is_bad_line (fold prior_of_two a (word_faults arguments words)) ≡ false
faults_fine a [] words none right fine = fine
faults_fine a (Setting ∷ arguments) words none right fine = cc
faults_fine a (argument ∷ arguments) [] none right fine = fine
faults_fine a (argument ∷ arguments) (word ∷ words) none right fine =
    let each = and_parts (is_right argument word) (are_right arguments words) right in
    faults_fine (prior_of_two a (word_fault argument word)) arguments words none each.1 (prior_fine a (word_fault argument word) fine (not_true (is_bad_line (word_fault argument word)) each.0))

words_fine : (arguments : List Argument) (words : List (List ℕ)) → has_settings arguments ≡ false → are_counted arguments words ≡ true → are_right arguments words ≡ true
    → is_bad_line (words_fault arguments words) ≡ false
words_fine arguments words none counted right = rw counted (faults_fine None arguments words none right refl)

-- the options of a `setattr` line
abbrev settings : List Argument
settings = Setting ∷ Setting ∷ Setting ∷ Setting ∷ []

settings_right : (options : List (List ℕ)) → are_counted settings options ≡ true → are_right settings options ≡ true → list_all is_right_option options ≡ true
settings_right [] counted right = refl
settings_right (a ∷ []) counted right = right
settings_right (a ∷ b ∷ []) counted right = right
settings_right (a ∷ b ∷ c ∷ []) counted right = right
settings_right (a ∷ b ∷ c ∷ d ∷ []) counted right = right
settings_right (a ∷ b ∷ c ∷ d ∷ e ∷ options) counted right = cc

setattr_fine : (words : List (List ℕ)) → are_counted (verb_arguments verb.Setattr) words ≡ true → are_right (verb_arguments verb.Setattr) words ≡ true → list_any (is_repeated (drop 2 words)) option_keys ≡ false
    → is_bad_line (words_fault (verb_arguments verb.Setattr) words) ≡ false
setattr_fine (space ∷ path ∷ options) counted right once =
    let outer = and_parts (is_right Space space) (are_right (Path ∷ settings) (path ∷ options)) right in
    let inner = and_parts (is_right Path path) (are_right settings options) outer.1 in
    let said : is_some (change_of options) ≡ true = change_right options (settings_right options counted inner.1) once in
    let first = prior_fine None (word_fault Space space) refl (not_true (is_bad_line (word_fault Space space)) outer.0) in
    let second = prior_fine (prior_of_two None (word_fault Space space)) (path_fault path) first (not_true (is_bad_line (path_fault path)) inner.0) in
    rw (counted, said) (prior_fine (prior_of_two (prior_of_two None (word_fault Space space)) (path_fault path)) None second refl)
setattr_fine _ counted right once = cc

-- a `setattr` line, with an option twice
abbrev IsTwice : Verb → List (List ℕ) → Type 0
IsTwice v words = (v ≡ verb.Setattr) × (list_any (is_repeated (drop 2 words)) option_keys ≡ true)

-- what is read of words that are not refused as bad is not so refused
read_fine : (v : Verb) (words : List (List ℕ)) → is_bad_line (words_fault (verb_arguments v) words) ≡ false → is_refused_as_bad (read_by v words) ≡ true → ⊥
read_fine v words fine bad = go (words_fault (verb_arguments v) words) fine bad
  where
    go : (fault : Option Fault) → is_bad_line fault ≡ false → is_refused_as_bad (option_map_or (λ f. Err f) fault (Ok (request_with v words))) ≡ true → ⊥
    go None e bad = cc
    go (Some f) e bad = cc

twice : (words : List (List ℕ)) → are_counted (verb_arguments verb.Setattr) words ≡ true → are_right (verb_arguments verb.Setattr) words ≡ true → is_refused_as_bad (read_by verb.Setattr words) ≡ true
    → list_any (is_repeated (drop 2 words)) option_keys ≡ true
twice words counted right bad = go (list_any (is_repeated (drop 2 words)) option_keys) refl
  where
    go : (is : Bool) → list_any (is_repeated (drop 2 words)) option_keys ≡ is → list_any (is_repeated (drop 2 words)) option_keys ≡ true
    go true e = e
    go false e = absurd (read_fine verb.Setattr words (setattr_fine words counted right e) bad)

read_twice : (v : Verb) (words : List (List ℕ)) → are_counted (verb_arguments v) words ≡ true → are_right (verb_arguments v) words ≡ true → is_refused_as_bad (read_by v words) ≡ true → IsTwice v words
read_twice verb.Setattr words counted right bad = (refl, twice words counted right bad)
read_twice v words counted right bad = absurd (read_fine v words (words_fine (verb_arguments v) words refl counted right) bad)

words_twice : (said : List (List ℕ)) (v : Verb) → verb_of (first_of said) ≡ Some v → are_counted (verb_arguments v) (drop 1 said) ≡ true → are_right (verb_arguments v) (drop 1 said) ≡ true
    → is_refused_as_bad (by_words said) ≡ true → (verb_of (first_of said) ≡ Some verb.Setattr) × (list_any (is_repeated (drop 3 said)) option_keys ≡ true)
unfolding verb_of
words_twice [] v is c r bad = cc
words_twice (word ∷ rest) v is c r bad =
    let h = read_twice v rest c r (rw is at bad) in (is ∙ ap (λ w. Some w) h.0, h.1)

-- a bad line with right words has an option twice
pub line_twice : (line : List ℕ) (v : Verb) → HasVerb line v → are_counted (verb_arguments v) (drop 1 (words line)) ≡ true → are_right (verb_arguments v) (drop 1 (words line)) ≡ true
    → is_refused_as_bad (request_of line) ≡ true → (verb_of (first_of (words line)) ≡ Some verb.Setattr) × (list_any (is_repeated (drop 3 (words line))) option_keys ≡ true)
unfolding request_of
line_twice line v is c r bad = words_twice (words line) v is c r bad
