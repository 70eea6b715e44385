-- What a line says: labels, paths, numbers below 2^64, and attributes of a new mount that are some.
use Rattle.std.proofs.Common.{◌≡◌, ◌≢◌, ℕ, ◌<◌, ◌^◌, ◌==◌, ◌&&◌, ◌||◌, not, nat_lt, nat_eq, cond, Bool, true, false, List, [], ◌∷◌, ◌++◌, length, drop, codes, Option, Some, None, is_some, unwrap_or, Result, Ok, Err, IsSome, refl, sym, ap, subst, ◌∙◌, arith}
use Rattle.std.proofs.lemmas.Bool.{and_parts, or_parts, eqb-true}
use Rattle.std.proofs.lemmas.Bool.Decides.{nat_tests}
use Rattle.std.proofs.lemmas.Option.{same_Some}
use Rattle.std.proofs.lemmas.Slice.Eq.{bytes_eq-Decides}
use Rattle.std.specs.Option.{option_map_or}
use Rattle.std.specs.List.{list_all, list_any, starts_with}
use Rattle.std.specs.Str.{bytes_eq}
use Rattle.mt_skel.specs.declared.fault.Fault.TheVariants.{BadLine, TooLong, BadPath}
use Rattle.mt_skel.specs.Outcome.{refuse_if, first_fault}
use Rattle.mt_skel.specs.Names.{is_label, is_name, names_text}
use Rattle.mt_skel.proofs.NamesLaws.{text_between}
use Rattle.mt_lines.specs.Words.{pieces, number_in_text}
use Rattle.mt_lines.proofs.NumberLaws.{number_is}
use Rattle.mt_setattr.specs.declared.change.SetWords.{SetWords}
use Rattle.mt_requests.specs.Options.{is_set_word, attributes_of, set_words, nothing_set, has_key}
use Rattle.mt_requests.specs.Requests.{text_length, label_fault, label_bytes, components, is_path, has_long_piece, path_fault, path_names, bad_unless, number_said, attributes_said}
use Rattle.mt_requests.specs.Printed.{bytes_of_path, words_there, set_rows}
use Rattle.mt_requests.proofs.TextLaws.{IsText, text, label_bytes-is, good_label}
use Rattle.mt_requests.proofs.PathLaws.{good_path}
use Rattle.mt_requests.proofs.SentWordLaws.{IsGoodPath, named_bytes}
use Rattle.mt_requests.proofs.ListingLaws.{set_among, set_of_words_if, set_of_words, set_there}

-- labels
pub label_said : (w : List ℕ) → label_fault w ≡ None → is_label (label_bytes w) ≡ true
label_said w h = go (text_length w) refl h
  where
    go : (o : Option ℕ) → text_length w ≡ o → option_map_or (λ n. refuse_if (nat_lt 255 n) TooLong) o (Some BadLine) ≡ None → is_label (label_bytes w) ≡ true
    go None is f = cc
    go (Some n) is f =
        let t = text w n is in
        ap is_label (label_bytes-is w t.0 t.1.stands) ∙ good_label w t.0 h t.1.stands

-- paths
pieces_some : (c : ℕ) (bytes : List ℕ) → pieces c bytes ≢ []
pieces_some c [] e = cc
pieces_some c (b ∷ bytes) e = grind (arith, nat_tests, pieces_some c bytes)

names_there : (bytes : List ℕ) (ps : List (List ℕ)) → pieces 47 bytes ≡ ps → bytes_of_path ps ≡ 47 ∷ bytes
names_there bytes [] is = absurd (pieces_some 47 bytes is)
names_there bytes (p ∷ ps) is = named_bytes p ps ∙ ap names_text (sym is) ∙ sym (text_between bytes)

-- the text of the names of a path is the path
pub path_there : (bytes : List ℕ) → is_path bytes ≡ true → bytes_of_path (components bytes) ≡ bytes
path_there [] h = cc
path_there (b ∷ bytes) h = go (bytes_eq (b ∷ bytes) (codes "/")) refl (b == 47) refl (and_parts (starts_with nat_eq (b ∷ bytes) (codes "/")) (list_all is_name (components (b ∷ bytes))) h).0
  where
    go : (root : Bool) → bytes_eq (b ∷ bytes) (codes "/") ≡ root → (slash : Bool) → (b == 47) ≡ slash → starts_with nat_eq (b ∷ bytes) (codes "/") ≡ true → bytes_of_path (components (b ∷ bytes)) ≡ b ∷ bytes
    go true root slash is begins =
        let same : (b ∷ bytes) ≡ codes "/" = (bytes_eq-Decides (b ∷ bytes) (codes "/")).0 root in
        ap (λ x. bytes_of_path (components x)) same ∙ sym same
    go false root true is begins =
        let e : b ≡ 47 = eqb-true b 47 is in
        ap (λ t. bytes_of_path (cond {A = List (List ℕ)} t [] (drop 1 (pieces 47 (b ∷ bytes))))) root
        ∙ ap (λ x. bytes_of_path (drop 1 (pieces 47 (x ∷ bytes)))) e ∙ names_there bytes (pieces 47 bytes) refl ∙ ap (λ x. x ∷ bytes) (sym e)
    go false root false is begins = grind (arith, nat_tests, is, begins)

pub path_said : (w : List ℕ) → path_fault w ≡ None → IsGoodPath (path_names w)
path_said w h =
    let p = good_path w h in
    let parts = and_parts (starts_with nat_eq (label_bytes w) (codes "/")) (list_all is_name (components (label_bytes w))) p.path in
    record { names_are = parts.1; short = ap (λ x. nat_lt 4095 (length x)) (path_there (label_bytes w) p.path) ∙ go (text_length w) refl h }
  where
    few : (long piece : Bool) (b : Bool) → first_fault (refuse_if (long || piece) TooLong ∷ refuse_if b BadPath ∷ []) ≡ None → long ≡ false
    few true piece b f = cc
    few false piece b f = refl

    go : (o : Option ℕ) → text_length w ≡ o → option_map_or (λ n. first_fault (refuse_if (nat_lt 4095 n || has_long_piece (label_bytes w)) TooLong ∷ refuse_if (not (is_path (label_bytes w))) BadPath ∷ [])) o (Some BadLine) ≡ None → nat_lt 4095 (length (label_bytes w)) ≡ false
    go None is f = cc
    go (Some n) is f =
        let t = text w n is in
        let many : length (label_bytes w) ≡ n = ap (λ x. length x) (label_bytes-is w t.0 t.1.stands) ∙ t.2 in
        ap (nat_lt 4095) many ∙ few (nat_lt 4095 n) (has_long_piece (label_bytes w)) (not (is_path (label_bytes w))) f

-- numbers
pub number_small : (w : List ℕ) → number_said w < 2 ^ 64
number_small w = go (number_in_text w) refl
  where
    go : (o : Option ℕ) → number_in_text w ≡ o → unwrap_or o 0 < 2 ^ 64
    go None is = omega arith
    go (Some n) is = (number_is w n is).1

-- attributes: one at least
set_some : (list : List ℕ) (s : SetWords) → set_words list ≡ Some s → words_there (set_rows s) ≢ []
set_some list s e none = go (pieces 44 list) refl (same_Some nothing_set s (ap set_of_words (sym none) ∙ set_there s))
  where
    by_test : (p : List ℕ) (ps : List (List ℕ)) (t : Bool) → list_all is_set_word (p ∷ ps) ≡ t → set_of_words_if t (p ∷ ps) ≡ Some s → nothing_set ≡ s → ⊥
    by_test p ps false is f empty = cc
    by_test p ps true is f empty =
        let both : set_among (p ∷ ps) ≡ nothing_set = same_Some (set_among (p ∷ ps)) s f ∙ sym empty in
        let ro_off : bytes_eq p (codes "ro") ≡ false = (or_parts (bytes_eq p (codes "ro")) (list_any (λ x. bytes_eq x (codes "ro")) ps) (ap (λ (x : SetWords). x.ro) both)).0 in
        let nosuid_off : bytes_eq p (codes "nosuid") ≡ false = (or_parts (bytes_eq p (codes "nosuid")) (list_any (λ x. bytes_eq x (codes "nosuid")) ps) (ap (λ (x : SetWords). x.nosuid) both)).0 in
        let nodev_off : bytes_eq p (codes "nodev") ≡ false = (or_parts (bytes_eq p (codes "nodev")) (list_any (λ x. bytes_eq x (codes "nodev")) ps) (ap (λ (x : SetWords). x.nodev) both)).0 in
        let noexec_off : bytes_eq p (codes "noexec") ≡ false = (or_parts (bytes_eq p (codes "noexec")) (list_any (λ x. bytes_eq x (codes "noexec")) ps) (ap (λ (x : SetWords). x.noexec) both)).0 in
        let nosymfollow_off : bytes_eq p (codes "nosymfollow") ≡ false = (or_parts (bytes_eq p (codes "nosymfollow")) (list_any (λ x. bytes_eq x (codes "nosymfollow")) ps) (ap (λ (x : SetWords). x.nosymfollow) both)).0 in
        let nodiratime_off : bytes_eq p (codes "nodiratime") ≡ false = (or_parts (bytes_eq p (codes "nodiratime")) (list_any (λ x. bytes_eq x (codes "nodiratime")) ps) (ap (λ (x : SetWords). x.nodiratime) both)).0 in
        let relatime_off : bytes_eq p (codes "relatime") ≡ false = (or_parts (bytes_eq p (codes "relatime")) (list_any (λ x. bytes_eq x (codes "relatime")) ps) (ap (λ (x : SetWords). x.relatime) both)).0 in
        let noatime_off : bytes_eq p (codes "noatime") ≡ false = (or_parts (bytes_eq p (codes "noatime")) (list_any (λ x. bytes_eq x (codes "noatime")) ps) (ap (λ (x : SetWords). x.noatime) both)).0 in
        let strictatime_off : bytes_eq p (codes "strictatime") ≡ false = (or_parts (bytes_eq p (codes "strictatime")) (list_any (λ x. bytes_eq x (codes "strictatime")) ps) (ap (λ (x : SetWords). x.strictatime) both)).0 in
        let not_one : is_set_word p ≡ false = λ i. ro_off i || nosuid_off i || nodev_off i || noexec_off i || nosymfollow_off i || nodiratime_off i || relatime_off i || noatime_off i || strictatime_off i in
        let no : true ≡ false = sym (and_parts (is_set_word p) (list_all is_set_word ps) is).0 ∙ not_one in
        cc

    go : (ps : List (List ℕ)) → pieces 44 list ≡ ps → nothing_set ≡ s → ⊥
    go [] is empty = pieces_some 44 list is
    go (p ∷ ps) is empty = by_test p ps (list_all is_set_word (p ∷ ps)) refl (ap set_of_words (sym is) ∙ e) empty

pub attributes_some : (w : List ℕ) → bad_unless (is_some (attributes_of w)) ≡ None → words_there (set_rows (attributes_said w)) ≢ []
attributes_some w h = go (has_key (codes "set=") w) refl (set_words (drop 4 w)) refl h
  where
    go : (key : Bool) → has_key (codes "set=") w ≡ key → (o : Option SetWords) → set_words (drop 4 w) ≡ o → bad_unless (is_some (cond {A = Option SetWords} key o None)) ≡ None → words_there (set_rows (unwrap_or (cond {A = Option SetWords} key o None) nothing_set)) ≢ []
    go false k o is f = absurd (cc)
    go true k None is f = absurd (cc)
    go true k (Some s) is f = set_some (drop 4 w) s is
