-- Options that are right by themselves, and of which none is there twice, say a change.
use Rattle.std.proofs.Common.{◌≡◌, ℕ, Bool, true, false, cond, ◌&&◌, ◌||◌, List, [], ◌∷◌, ◌++◌, length, drop, codes, Option, Some, None, is_some, refl, sym, subst}
use Rattle.std.proofs.lemmas.Bool.{and_parts}
use Rattle.std.proofs.lemmas.Bool.Decides.{Decides-eqb}
use Rattle.std.proofs.lemmas.Slice.Eq.{starts_is}
use Rattle.std.specs.List.{find, list_all, list_any}
use Rattle.std.specs.Option.{option_map, option_map_or}
use Rattle.std.specs.Str.{bytes_eq}
use Rattle.mt_peers.specs.declared.state.Kind.{Kind}
use Rattle.mt_setattr.specs.declared.change.SetWords.{SetWords}
use Rattle.mt_setattr.specs.declared.change.ClrWords.{ClrWords}
use Rattle.mt_requests.specs.Options.{option_keys, has_key, is_option, is_repeated, are_options, nothing_set, nothing_cleared, set_words, clr_words, kind_of, said, set_of, clr_of, prop_of, is_recursive, change_with, change_of}
use Rattle.mt_help.specs.Reasons.{is_right_option}

-- a word that begins with a key has no other one
apart : (key word : List ℕ) (test : List ℕ → Bool) → has_key key word ≡ true → ((rest : List ℕ) → test (key ++ rest) ≡ false) → test word ≡ false
apart key word test has each =
    subst (λ w. test w ≡ false) (sym ((starts_is Decides-eqb word key (has_key key word) refl).0 has)) (each (drop (length key) word))

-- the tests of an option, one behind another
chosen_none : (r s c p x y z : Bool) → cond r true (cond s x (cond c y (p && z))) ≡ true → r || s || c || p ≡ true
chosen_none true s c p x y z e = refl
chosen_none false true c p x y z e = refl
chosen_none false false true p x y z e = refl
chosen_none false false false p x y z e = (and_parts p z e).0

option_is : (option : List ℕ) → is_right_option option ≡ true → is_option option ≡ true
option_is option e =
    chosen_none (bytes_eq option (codes "rec")) (has_key (codes "set=") option) (has_key (codes "clr=") option) (has_key (codes "prop=") option)
    (is_some (set_words (drop 4 option))) (is_some (clr_words (drop 4 option))) (is_some (kind_of (drop 5 option))) e

chosen_set : (r s c p x y z : Bool) → cond r true (cond s x (cond c y (p && z))) ≡ true → r ≡ false → s ≡ true → x ≡ true
chosen_set false true c p x y z e f g = e
chosen_set true s c p x y z e f g = cc
chosen_set false false c p x y z e f g = cc

set_right : (option : List ℕ) → is_right_option option ≡ true → has_key (codes "set=") option ≡ true → is_some (set_words (drop 4 option)) ≡ true
set_right option e has =
    chosen_set (bytes_eq option (codes "rec")) (has_key (codes "set=") option) (has_key (codes "clr=") option) (has_key (codes "prop=") option)
    (is_some (set_words (drop 4 option))) (is_some (clr_words (drop 4 option))) (is_some (kind_of (drop 5 option))) e
    (apart (codes "set=") option (λ w. bytes_eq w (codes "rec")) has (λ rest. refl)) has

chosen_clr : (r s c p x y z : Bool) → cond r true (cond s x (cond c y (p && z))) ≡ true → r ≡ false → s ≡ false → c ≡ true → y ≡ true
chosen_clr false false true p x y z e f g h = e
chosen_clr true s c p x y z e f g h = cc
chosen_clr false true c p x y z e f g h = cc
chosen_clr false false false p x y z e f g h = cc

clr_right : (option : List ℕ) → is_right_option option ≡ true → has_key (codes "clr=") option ≡ true → is_some (clr_words (drop 4 option)) ≡ true
clr_right option e has =
    chosen_clr (bytes_eq option (codes "rec")) (has_key (codes "set=") option) (has_key (codes "clr=") option) (has_key (codes "prop=") option)
    (is_some (set_words (drop 4 option))) (is_some (clr_words (drop 4 option))) (is_some (kind_of (drop 5 option))) e
    (apart (codes "clr=") option (λ w. bytes_eq w (codes "rec")) has (λ rest. refl)) (apart (codes "clr=") option (has_key (codes "set=")) has (λ rest. refl)) has

chosen_prop : (r s c p x y z : Bool) → cond r true (cond s x (cond c y (p && z))) ≡ true → r ≡ false → s ≡ false → c ≡ false → z ≡ true
chosen_prop false false false p x y z e f g h = (and_parts p z e).1
chosen_prop true s c p x y z e f g h = cc
chosen_prop false true c p x y z e f g h = cc
chosen_prop false false true p x y z e f g h = cc

kind_right : (option : List ℕ) → is_right_option option ≡ true → has_key (codes "prop=") option ≡ true → is_some (kind_of (drop 5 option)) ≡ true
kind_right option e has =
    chosen_prop (bytes_eq option (codes "rec")) (has_key (codes "set=") option) (has_key (codes "clr=") option) (has_key (codes "prop=") option)
    (is_some (set_words (drop 4 option))) (is_some (clr_words (drop 4 option))) (is_some (kind_of (drop 5 option))) e
    (apart (codes "prop=") option (λ w. bytes_eq w (codes "rec")) has (λ rest. refl)) (apart (codes "prop=") option (has_key (codes "set=")) has (λ rest. refl))
    (apart (codes "prop=") option (has_key (codes "clr=")) has (λ rest. refl))

some_map : {A B : Type 0} (f : A → B) (o : Option A) → is_some o ≡ true → is_some (option_map f o) ≡ true
some_map f (Some a) e = refl
some_map f None e = cc

-- what a key says is right where each option that has the key is
said_right : {A : Type 0} (key : List ℕ) (absent : Option A) (read : List ℕ → Option A) → is_some absent ≡ true
    → ((option : List ℕ) → is_right_option option ≡ true → has_key key option ≡ true → is_some (read (drop (length key) option)) ≡ true)
    → (options : List (List ℕ)) → list_all is_right_option options ≡ true → is_some (said key absent read options) ≡ true
said_right key absent read there each [] all = there
said_right {A} key absent read there each (option ∷ options) all =
    let first = and_parts (is_right_option option) (list_all is_right_option options) all in
    go (has_key key option) refl (each option first.0) (said_right key absent read there each options first.1)
  where
    go : (has : Bool) → has_key key option ≡ has → (has_key key option ≡ true → is_some (read (drop (length key) option)) ≡ true) → is_some (said key absent read options) ≡ true
        → is_some (option_map_or (λ o. read (drop (length key) o)) (cond {A = Option (List ℕ)} has (Some option) (find (has_key key) options)) absent) ≡ true
    go true e here later = here e
    go false e here later = later

all_options : (options : List (List ℕ)) → list_all is_right_option options ≡ true → list_all is_option options ≡ true
all_options [] all = refl
all_options (option ∷ options) all =
    let first = and_parts (is_right_option option) (list_all is_right_option options) all in
    rw (option_is option first.0) (all_options options first.1)

with_all : (set : Option SetWords) (clr : Option ClrWords) (prop : Option (Option Kind)) (recursive : Bool) → is_some set ≡ true → is_some clr ≡ true → is_some prop ≡ true
    → is_some (change_with set clr prop recursive) ≡ true
with_all (Some set) (Some clr) (Some prop) recursive s c p = refl
with_all None clr prop recursive s c p = cc
with_all (Some set) None prop recursive s c p = cc
with_all (Some set) (Some clr) None recursive s c p = cc

-- options that are right, and of which no key is there twice, say a change
pub change_right : (options : List (List ℕ)) → list_all is_right_option options ≡ true → list_any (is_repeated options) option_keys ≡ false → is_some (change_of options) ≡ true
change_right options all once =
    let are : are_options options ≡ true = rw (all_options options all, once) refl in
    let set = said_right (codes "set=") (Some nothing_set) set_words refl set_right options all in
    let clr = said_right (codes "clr=") (Some nothing_cleared) clr_words refl clr_right options all in
    let prop = said_right (codes "prop=") (Some None) (λ word. option_map (λ kind. Some kind) (kind_of word)) refl (λ option e has. some_map _ _ (kind_right option e has)) options all in
    rw are (with_all (set_of options) (clr_of options) (prop_of options) (is_recursive options) set clr prop)
