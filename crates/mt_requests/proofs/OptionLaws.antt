-- Options of a `setattr` line, by what stands behind their keys.
use Rattle.std.proofs.Common.{arith, suc, ◌≡◌, ℕ, Bool, true, false, nat_lt, List, [], ◌∷◌, length, drop, cond, ◌||◌, codes, Option, Some, None, is_some, refl, ◌∙◌}
use Rattle.std.proofs.lemmas.Bool.Decides.{nat_tests}
use Rattle.std.specs.List.{filter, find, list_any}
use Rattle.std.specs.Option.{option_map, option_map_or}
use Rattle.mt_setattr.specs.declared.change.Change.{Change}
use Rattle.mt_requests.specs.Options.{has_key, is_repeated, are_options, nothing_set, nothing_cleared, set_words, clr_words, kind_of, said, change_with, change_of}

-- something passes a test where the list of all that do is not empty
any_filtered : {A : Type 0} (test : A → Bool) (xs : List A) → list_any test xs ≡ nat_lt 0 (length (filter test xs))
any_filtered test [] = refl
any_filtered {A} test (x ∷ xs) =
    let ih = any_filtered test xs in
    elim (test x) as (λ b. (b || list_any test xs) ≡ nat_lt 0 (length (cond {A = List A} b (x ∷ filter test xs) (filter test xs)))) [
      | true ↦ grind (arith, nat_tests)
      | false ↦ ih
    ]

one_more : (n : ℕ) → nat_lt 0 n ≡ nat_lt 1 (suc n)
one_more n = grind (arith, nat_tests)

one_more_listed : {A : Type 0} (x : A) (xs : List A) → nat_lt 0 (length xs) ≡ nat_lt 1 (length (x ∷ xs))
one_more_listed x xs = one_more (length xs)

-- where the first option has the key, it is repeated if another has it
pub repeated_first : (key word : List ℕ) (rest : List (List ℕ)) → has_key key word ≡ true → list_any (has_key key) rest ≡ is_repeated (word ∷ rest) key
repeated_first key word rest h = rw h (any_filtered (has_key key) rest ∙ one_more_listed word (filter (has_key key) rest))

-- what a key says
abbrev pub text_of : List ℕ → List (List ℕ) → Option (List ℕ)
text_of key words = said key None (λ text. Some text) words

-- what is read of the options is read of what the key's option says, if there is one
read_said : {A : Type 0} (key : List ℕ) (absent : A) (read : List ℕ → A) (options : List (List ℕ)) → said key absent read options ≡ option_map_or read (text_of key options) absent
read_said {A} key absent read options = go (find (has_key key) options)
  where
    go : (found : Option (List ℕ)) → option_map_or (λ option. read (drop (length key) option)) found absent ≡ option_map_or read (option_map_or (λ option. Some (drop (length key) option)) found None) absent
    go None = refl
    go (Some option) = refl

flag_said : (text : Option (List ℕ)) → option_map_or (λ rest. true) text false ≡ is_some text
flag_said None = refl
flag_said (Some text) = refl

-- the change that a line says, by what its options say
pub change_by_options : (options : List (List ℕ)) → change_of options ≡ cond (are_options options) (change_with
    (option_map_or set_words (text_of (codes "set=") options) (Some nothing_set))
    (option_map_or clr_words (text_of (codes "clr=") options) (Some nothing_cleared))
    (option_map_or (λ word. option_map (λ kind. Some kind) (kind_of word)) (text_of (codes "prop=") options) (Some None))
    (is_some (text_of (codes "rec") options))) None
change_by_options options =
    let set = read_said (codes "set=") (Some nothing_set) set_words options in
    let clr = read_said (codes "clr=") (Some nothing_cleared) clr_words options in
    let prop = read_said (codes "prop=") (Some None) (λ word. option_map (λ kind. Some kind) (kind_of word)) options in
    let recursive = read_said (codes "rec") false (λ rest. true) options ∙ flag_said (text_of (codes "rec") options) in
    rw (set, clr, prop, recursive) refl
