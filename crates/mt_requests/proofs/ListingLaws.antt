-- Options of a command as they stand in its line, and how they are read.
use Rattle.std.proofs.Common.{◌≡◌, ℕ, ◌&&◌, ◌||◌, ◌==◌, not, cond, if◌then◌else◌, Bool, true, false, List, [], ◌∷◌, ◌++◌, drop, codes, Option, Some, None, refl, sym, ap, ◌∙◌, arith, append-nil, append_assoc}
use Rattle.std.proofs.lemmas.Grind.{flat_map-append}
use Rattle.std.proofs.lemmas.Bool.Decides.{nat_tests}
use Rattle.std.proofs.lemmas.List.Folds.{list_all-append}
use Rattle.std.specs.List.{flat_map, list_all, list_any, join_with_byte}
use Rattle.std.specs.Option.{option_map}
use Rattle.std.specs.Str.{bytes_eq}
use Rattle.mt_peers.specs.declared.state.Kind.{Kind}
use Rattle.mt_peers.specs.declared.state.Kind.TheVariants.{Shared, Private, Slave, Unbindable}
use Rattle.mt_setattr.specs.declared.change.Change.{Change}
use Rattle.mt_setattr.specs.declared.change.SetWords.{SetWords}
use Rattle.mt_setattr.specs.declared.change.ClrWords.{ClrWords}
use Rattle.mt_skel.proofs.MiddleLaws.{and-true, and_first, and_second}
use Rattle.mt_info.specs.Building.{behind}
use Rattle.mt_info.specs.RowLine.{word_if}
use Rattle.mt_lines.proofs.PieceLaws.{lacks_byte, pieces_joined}
use Rattle.mt_protocol.specs.declared.argument.Argument.TheVariants.{Setting}
use Rattle.mt_info.proofs.WordLaws.{all-joined}
use Rattle.mt_requests.proofs.SentLaws.{is_inner, inner}
use Rattle.mt_requests.specs.Options.{is_set_word, is_clr_word, nothing_set, nothing_cleared, set_words, clr_words, kind_of, change_with, change_of}
use Rattle.mt_requests.specs.Requests.{are_counted}
use Rattle.mt_requests.specs.Printed.{words_there, set_rows, clr_rows, listed_option, behind_comma, said_set, said_clr, kind_word, said_prop, change_options}

-- ---- texts

-- words of which the first stands alone, and each other one behind the byte between
joined : (c : ℕ) (w : List ℕ) (ws : List (List ℕ)) → join_with_byte c (w ∷ ws) ≡ w ++ behind c ws
joined c w [] = sym (append-nil w)
joined c w (v ∷ ws) = ap (λ t. w ++ c ∷ t) (joined c v ws)

-- words behind a space each are what is between spaces, behind the first
pub spaced : (w : List ℕ) (ws : List (List ℕ)) → w ++ behind 32 ws ≡ join_with_byte 32 (w ∷ ws)
spaced w ws = sym (joined 32 w ws)

pub option_lists : (key : List ℕ) (ws : List (List ℕ)) → behind_comma key (behind 44 ws) ≡ behind 32 (listed_option key ws)
option_lists key [] = refl
option_lists key (w ∷ ws) =
    ap (λ t. 32 ∷ (key ++ t)) (sym (joined 44 w ws)) ∙ sym (append-nil (32 ∷ (key ++ join_with_byte 44 (w ∷ ws))))

-- three groups of words, appended one after the other
pub three_groups : (s0 s1 s2 s3 : List ℕ) (a b d : List (List ℕ)) → s1 ≡ s0 ++ behind 32 a → s2 ≡ s1 ++ behind 32 b → s3 ≡ s2 ++ behind 32 d → s3 ≡ s0 ++ behind 32 (a ++ (b ++ d))
three_groups s0 s1 s2 s3 a b d e1 e2 e3 =
    e3 ∙ ap (λ s. s ++ behind 32 d) (e2 ∙ ap (λ s. s ++ behind 32 b) e1) ∙ moved s0 (behind 32 a) (behind 32 b) (behind 32 d)
    ∙ ap (λ t. s0 ++ t) (sym (flat_map-append (λ w. 32 ∷ w) a (b ++ d) ∙ ap (λ t. behind 32 a ++ t) (flat_map-append (λ w. 32 ∷ w) b d)))
  where
    moved : (s x y z : List ℕ) → ((s ++ x) ++ y) ++ z ≡ s ++ (x ++ (y ++ z))
    moved s x y z = simp append_assoc refl

-- ---- lists

-- what all rows pass, those that are there pass
all_there : (p : List ℕ → Bool) (rows : List (Bool × List ℕ)) → list_all (λ (r : Bool × List ℕ). p r.1) rows ≡ true → list_all p (words_there rows) ≡ true
unfolding words_there
all_there p [] h = refl
all_there p (r ∷ rows) h = go r.0 (and_first (p r.1) _ h) (all_there p rows (and_second (p r.1) _ h))
  where
    go : (there : Bool) → p r.1 ≡ true → list_all p (words_there rows) ≡ true → list_all p (cond {A = List (List ℕ)} there (r.1 ∷ words_there rows) (words_there rows)) ≡ true
    go true one rest = and-true (p r.1) (list_all p (words_there rows)) one rest
    go false one rest = rest

-- whether a word is there, by its row
any_step : (is there later : Bool) → cond {A = Bool} there (is || later) later ≡ ((is && there) || later)
any_step true true later = refl
any_step true false later = refl
any_step false true later = refl
any_step false false later = refl

any_there : (w : List ℕ) (rows : List (Bool × List ℕ)) → list_any (λ x. bytes_eq x w) (words_there rows) ≡ list_any (λ (r : Bool × List ℕ). bytes_eq r.1 w && r.0) rows
unfolding words_there
any_there w [] = refl
any_there w (r ∷ rows) = go r.0 (any_there w rows)
  where
    go : (there : Bool) → list_any (λ x. bytes_eq x w) (words_there rows) ≡ list_any (λ (r : Bool × List ℕ). bytes_eq r.1 w && r.0) rows
        → list_any (λ x. bytes_eq x w) (cond {A = List (List ℕ)} there (r.1 ∷ words_there rows) (words_there rows)) ≡ ((bytes_eq r.1 w && there) || list_any (λ (r : Bool × List ℕ). bytes_eq r.1 w && r.0) rows)
    go true ih = ap (λ later. bytes_eq r.1 w || later) ih ∙ any_step (bytes_eq r.1 w) true (list_any (λ (r : Bool × List ℕ). bytes_eq r.1 w && r.0) rows)
    go false ih = ih ∙ any_step (bytes_eq r.1 w) false (list_any (λ (r : Bool × List ℕ). bytes_eq r.1 w && r.0) rows)

or_false : (b : Bool) → (b || false) ≡ b
or_false true = refl
or_false false = refl

-- what a list sets, by its words, where each can be set
abbrev pub set_among : List (List ℕ) → SetWords
set_among ws = record {
  ro = list_any (λ x. bytes_eq x (codes "ro")) ws;
  nosuid = list_any (λ x. bytes_eq x (codes "nosuid")) ws;
  nodev = list_any (λ x. bytes_eq x (codes "nodev")) ws;
  noexec = list_any (λ x. bytes_eq x (codes "noexec")) ws;
  nosymfollow = list_any (λ x. bytes_eq x (codes "nosymfollow")) ws;
  nodiratime = list_any (λ x. bytes_eq x (codes "nodiratime")) ws;
  relatime = list_any (λ x. bytes_eq x (codes "relatime")) ws;
  noatime = list_any (λ x. bytes_eq x (codes "noatime")) ws;
  strictatime = list_any (λ x. bytes_eq x (codes "strictatime")) ws;
}

abbrev pub set_of_words_if : Bool → List (List ℕ) → Option SetWords
set_of_words_if right ws = if right then Some (set_among ws) else None

abbrev pub set_of_words : List (List ℕ) → Option SetWords
set_of_words ws = set_of_words_if (list_all is_set_word ws) ws

set_of_rows : (rows : List (Bool × List ℕ)) → list_all (λ (r : Bool × List ℕ). is_set_word r.1) rows ≡ true → set_of_words (words_there rows) ≡ Some (record {
  ro = list_any (λ (r : Bool × List ℕ). bytes_eq r.1 (codes "ro") && r.0) rows;
  nosuid = list_any (λ (r : Bool × List ℕ). bytes_eq r.1 (codes "nosuid") && r.0) rows;
  nodev = list_any (λ (r : Bool × List ℕ). bytes_eq r.1 (codes "nodev") && r.0) rows;
  noexec = list_any (λ (r : Bool × List ℕ). bytes_eq r.1 (codes "noexec") && r.0) rows;
  nosymfollow = list_any (λ (r : Bool × List ℕ). bytes_eq r.1 (codes "nosymfollow") && r.0) rows;
  nodiratime = list_any (λ (r : Bool × List ℕ). bytes_eq r.1 (codes "nodiratime") && r.0) rows;
  relatime = list_any (λ (r : Bool × List ℕ). bytes_eq r.1 (codes "relatime") && r.0) rows;
  noatime = list_any (λ (r : Bool × List ℕ). bytes_eq r.1 (codes "noatime") && r.0) rows;
  strictatime = list_any (λ (r : Bool × List ℕ). bytes_eq r.1 (codes "strictatime") && r.0) rows;
})
set_of_rows rows h =
    ap (λ right. set_of_words_if right (words_there rows)) (all_there is_set_word rows h)
    ∙ (λ i. Some (record {
      ro = any_there (codes "ro") rows i;
      nosuid = any_there (codes "nosuid") rows i;
      nodev = any_there (codes "nodev") rows i;
      noexec = any_there (codes "noexec") rows i;
      nosymfollow = any_there (codes "nosymfollow") rows i;
      nodiratime = any_there (codes "nodiratime") rows i;
      relatime = any_there (codes "relatime") rows i;
      noatime = any_there (codes "noatime") rows i;
      strictatime = any_there (codes "strictatime") rows i;
    }))

pub set_there : (s : SetWords) → set_of_words (words_there (set_rows s)) ≡ Some s
set_there s =
    set_of_rows (set_rows s) refl
    ∙ (λ i. Some (record {
      ro = or_false s.ro i;
      nosuid = or_false s.nosuid i;
      nodev = or_false s.nodev i;
      noexec = or_false s.noexec i;
      nosymfollow = or_false s.nosymfollow i;
      nodiratime = or_false s.nodiratime i;
      relatime = or_false s.relatime i;
      noatime = or_false s.noatime i;
      strictatime = or_false s.strictatime i;
    }))

-- and what one clears
abbrev pub clr_among : List (List ℕ) → ClrWords
clr_among ws = record {
  ro = list_any (λ x. bytes_eq x (codes "ro")) ws;
  nosuid = list_any (λ x. bytes_eq x (codes "nosuid")) ws;
  nodev = list_any (λ x. bytes_eq x (codes "nodev")) ws;
  noexec = list_any (λ x. bytes_eq x (codes "noexec")) ws;
  nosymfollow = list_any (λ x. bytes_eq x (codes "nosymfollow")) ws;
  nodiratime = list_any (λ x. bytes_eq x (codes "nodiratime")) ws;
  atime = list_any (λ x. bytes_eq x (codes "atime")) ws;
}

abbrev pub clr_of_words_if : Bool → List (List ℕ) → Option ClrWords
clr_of_words_if right ws = if right then Some (clr_among ws) else None

abbrev pub clr_of_words : List (List ℕ) → Option ClrWords
clr_of_words ws = clr_of_words_if (list_all is_clr_word ws) ws

clr_of_rows : (rows : List (Bool × List ℕ)) → list_all (λ (r : Bool × List ℕ). is_clr_word r.1) rows ≡ true → clr_of_words (words_there rows) ≡ Some (record {
  ro = list_any (λ (r : Bool × List ℕ). bytes_eq r.1 (codes "ro") && r.0) rows;
  nosuid = list_any (λ (r : Bool × List ℕ). bytes_eq r.1 (codes "nosuid") && r.0) rows;
  nodev = list_any (λ (r : Bool × List ℕ). bytes_eq r.1 (codes "nodev") && r.0) rows;
  noexec = list_any (λ (r : Bool × List ℕ). bytes_eq r.1 (codes "noexec") && r.0) rows;
  nosymfollow = list_any (λ (r : Bool × List ℕ). bytes_eq r.1 (codes "nosymfollow") && r.0) rows;
  nodiratime = list_any (λ (r : Bool × List ℕ). bytes_eq r.1 (codes "nodiratime") && r.0) rows;
  atime = list_any (λ (r : Bool × List ℕ). bytes_eq r.1 (codes "atime") && r.0) rows;
})
clr_of_rows rows h =
    ap (λ right. clr_of_words_if right (words_there rows)) (all_there is_clr_word rows h)
    ∙ (λ i. Some (record {
      ro = any_there (codes "ro") rows i;
      nosuid = any_there (codes "nosuid") rows i;
      nodev = any_there (codes "nodev") rows i;
      noexec = any_there (codes "noexec") rows i;
      nosymfollow = any_there (codes "nosymfollow") rows i;
      nodiratime = any_there (codes "nodiratime") rows i;
      atime = any_there (codes "atime") rows i;
    }))

pub clr_there : (s : ClrWords) → clr_of_words (words_there (clr_rows s)) ≡ Some s
clr_there s =
    clr_of_rows (clr_rows s) refl
    ∙ (λ i. Some (record {
      ro = or_false s.ro i;
      nosuid = or_false s.nosuid i;
      nodev = or_false s.nodev i;
      noexec = or_false s.noexec i;
      nosymfollow = or_false s.nosymfollow i;
      nodiratime = or_false s.nodiratime i;
      atime = or_false s.atime i;
    }))

-- what is read of a list of these words, if there are some, and of no list
abbrev pub set_back : List (List ℕ) → Option SetWords
set_back [] = Some nothing_set
set_back (w ∷ ws) = set_words (join_with_byte 44 (w ∷ ws))

abbrev pub clr_back : List (List ℕ) → Option ClrWords
clr_back [] = Some nothing_cleared
clr_back (w ∷ ws) = clr_words (join_with_byte 44 (w ∷ ws))

pub set_read : (s : SetWords) → set_back (words_there (set_rows s)) ≡ Some s
set_read s = go (words_there (set_rows s)) refl
  where
    go : (ws : List (List ℕ)) → words_there (set_rows s) ≡ ws → set_back ws ≡ Some s
    go [] is = ap set_of_words (sym is) ∙ set_there s
    go (w ∷ ws) is =
        ap set_of_words (pieces_joined 44 w ws (ap (list_all (lacks_byte 44)) (sym is) ∙ all_there (lacks_byte 44) (set_rows s) refl) ∙ sym is) ∙ set_there s

pub clr_read : (s : ClrWords) → clr_back (words_there (clr_rows s)) ≡ Some s
clr_read s = go (words_there (clr_rows s)) refl
  where
    go : (ws : List (List ℕ)) → words_there (clr_rows s) ≡ ws → clr_back ws ≡ Some s
    go [] is = ap clr_of_words (sym is) ∙ clr_there s
    go (w ∷ ws) is =
        ap clr_of_words (pieces_joined 44 w ws (ap (list_all (lacks_byte 44)) (sym is) ∙ all_there (lacks_byte 44) (clr_rows s) refl) ∙ sym is) ∙ clr_there s

-- ---- all options

abbrev all_options : Bool → List (List ℕ) → List (List ℕ) → Option Kind → List (List ℕ)
all_options rec ws vs prop = word_if rec (codes "rec") ++ (listed_option (codes "set=") ws ++ (listed_option (codes "clr=") vs ++ said_prop prop))

prop_read : (kind : Kind) → option_map (λ k. Some k) (kind_of (kind_word kind)) ≡ Some (Some kind)
prop_read Shared = refl
prop_read Private = refl
prop_read Slave = refl
prop_read Unbindable = refl

abbrev AreRead : Bool → List (List ℕ) → List (List ℕ) → Option Kind → Type 0
AreRead rec ws vs prop =
    (change_of (all_options rec ws vs prop) ≡ change_with (set_back ws) (clr_back vs) (Some prop) rec)
    × (are_counted (Setting ∷ Setting ∷ Setting ∷ Setting ∷ []) (all_options rec ws vs prop) ≡ true)

options_read : (rec : Bool) (ws vs : List (List ℕ)) (prop : Option Kind) → AreRead rec ws vs prop
options_read true [] [] None = (refl, refl)
options_read true [] [] (Some kind) = (λ i. change_with (set_back []) (clr_back []) (prop_read kind i) true, refl)
options_read true [] (v ∷ vs) None = (refl, refl)
options_read true [] (v ∷ vs) (Some kind) = (λ i. change_with (set_back []) (clr_back (v ∷ vs)) (prop_read kind i) true, refl)
options_read true (w ∷ ws) [] None = (refl, refl)
options_read true (w ∷ ws) [] (Some kind) = (λ i. change_with (set_back (w ∷ ws)) (clr_back []) (prop_read kind i) true, refl)
options_read true (w ∷ ws) (v ∷ vs) None = (refl, refl)
options_read true (w ∷ ws) (v ∷ vs) (Some kind) = (λ i. change_with (set_back (w ∷ ws)) (clr_back (v ∷ vs)) (prop_read kind i) true, refl)
options_read false [] [] None = (refl, refl)
options_read false [] [] (Some kind) = (λ i. change_with (set_back []) (clr_back []) (prop_read kind i) false, refl)
options_read false [] (v ∷ vs) None = (refl, refl)
options_read false [] (v ∷ vs) (Some kind) = (λ i. change_with (set_back []) (clr_back (v ∷ vs)) (prop_read kind i) false, refl)
options_read false (w ∷ ws) [] None = (refl, refl)
options_read false (w ∷ ws) [] (Some kind) = (λ i. change_with (set_back (w ∷ ws)) (clr_back []) (prop_read kind i) false, refl)
options_read false (w ∷ ws) (v ∷ vs) None = (refl, refl)
options_read false (w ∷ ws) (v ∷ vs) (Some kind) = (λ i. change_with (set_back (w ∷ ws)) (clr_back (v ∷ vs)) (prop_read kind i) false, refl)

-- the options of a change say it, and are no more than there may be
pub change_read : (c : Change) → change_of (change_options c) ≡ Some c
change_read c =
    (options_read c.recursive (words_there (set_rows c.set)) (words_there (clr_rows c.clr)) c.prop).0
    ∙ (λ i. change_with (set_read c.set i) (clr_read c.clr i) (Some c.prop) c.recursive)

pub change_counted : (c : Change) → are_counted (Setting ∷ Setting ∷ Setting ∷ Setting ∷ []) (change_options c) ≡ true
change_counted c = (options_read c.recursive (words_there (set_rows c.set)) (words_there (clr_rows c.clr)) c.prop).1

-- ---- what may stand in a word

listed_inner : (key : List ℕ) (ws : List (List ℕ)) → inner key ≡ true → list_all inner ws ≡ true → list_all inner (listed_option key ws) ≡ true
listed_inner key [] k h = refl
listed_inner key (w ∷ ws) k h =
    and-true (inner (key ++ join_with_byte 44 (w ∷ ws))) true
    (list_all-append is_inner key (join_with_byte 44 (w ∷ ws)) ∙ and-true (inner key) (inner (join_with_byte 44 (w ∷ ws))) k (all-joined is_inner 44 (w ∷ ws) refl h)) refl

pub set_inner : (s : SetWords) → list_all inner (said_set s) ≡ true
set_inner s = listed_inner (codes "set=") (words_there (set_rows s)) refl (all_there inner (set_rows s) refl)

clr_inner : (s : ClrWords) → list_all inner (said_clr s) ≡ true
clr_inner s = listed_inner (codes "clr=") (words_there (clr_rows s)) refl (all_there inner (clr_rows s) refl)

prop_inner : (prop : Option Kind) → list_all inner (said_prop prop) ≡ true
prop_inner None = refl
prop_inner (Some Shared) = refl
prop_inner (Some Private) = refl
prop_inner (Some Slave) = refl
prop_inner (Some Unbindable) = refl

rec_inner : (rec : Bool) → list_all inner (word_if rec (codes "rec")) ≡ true
rec_inner true = refl
rec_inner false = refl

all_both : (xs ys : List (List ℕ)) → list_all inner xs ≡ true → list_all inner ys ≡ true → list_all inner (xs ++ ys) ≡ true
all_both xs ys h k = list_all-append inner xs ys ∙ and-true (list_all inner xs) (list_all inner ys) h k

pub change_inner : (c : Change) → list_all inner (change_options c) ≡ true
change_inner c =
    all_both (word_if c.recursive (codes "rec")) (said_set c.set ++ (said_clr c.clr ++ said_prop c.prop)) (rec_inner c.recursive)
    (all_both (said_set c.set) (said_clr c.clr ++ said_prop c.prop) (set_inner c.set)
    (all_both (said_clr c.clr) (said_prop c.prop) (clr_inner c.clr) (prop_inner c.prop)))
