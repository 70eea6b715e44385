-- Paths as they lie: the names, each preceded by a slash, and the way back.
use Rattle.std.proofs.Common.{◌≡◌, ◌≢◌, ℕ, List, [], ◌∷◌, ◌++◌, true, refl, sym, ap, ◌∙◌, arith, append-nil, append_assoc}
use Rattle.std.specs.List.{list_all, join_with_byte}
use Rattle.std.specs.Str.{bytes_eq}
use Rattle.std.proofs.lemmas.Bool.Decides.{nat_tests, Decides-like, same_from_decides}
use Rattle.std.proofs.lemmas.Grind.{flat_map-append}
use Rattle.std.proofs.lemmas.List.Folds.{list_all-append}
use Rattle.std.proofs.lemmas.Slice.Eq.{bytes_eq-Decides}
use Rattle.mt_lines.specs.Words.{pieces}
use Rattle.mt_lines.proofs.PieceLaws.{lacks_byte, pieces_joined, joined_pieces}
use Rattle.mt_skel.specs.Names.{is_name, names_text, names_in}
use Rattle.mt_skel.specs.Skeleton.{path_eq}
use Rattle.mt_skel.proofs.MiddleLaws.{and-true}
use Rattle.mt_skel.proofs.SkeletonLaws.{path_eq-Decides}

names_lack : (ns : List (List ℕ)) → list_all is_name ns ≡ true → list_all (lacks_byte 47) ns ≡ true
names_lack [] h = refl
names_lack (n ∷ ns) h = grind (arith, nat_tests, names_lack ns)

text_joined : (n : List ℕ) (ns : List (List ℕ)) → names_text (n ∷ ns) ≡ 47 ∷ join_with_byte 47 (n ∷ ns)
text_joined n [] = ap (λ t. 47 ∷ t) (append-nil n)
text_joined n (m ∷ ns) = ap (λ t. 47 ∷ (n ++ t)) (text_joined m ns)

-- what stands in the text of names are these names
pub names_of_text : (ns : List (List ℕ)) → list_all is_name ns ≡ true → names_in (names_text ns) ≡ ns
names_of_text [] h = refl
names_of_text (n ∷ ns) h = ap names_in (text_joined n ns) ∙ pieces_joined 47 n ns (names_lack (n ∷ ns) h)

pieces_some : (c : ℕ) (text : List ℕ) → pieces c text ≢ []
pieces_some c [] e = cc
pieces_some c (b ∷ text) e = grind (arith, nat_tests, pieces_some c text)

-- a slash and a text are the text of the names between its slashes
pub text_between : (text : List ℕ) → 47 ∷ text ≡ names_text (pieces 47 text)
text_between text = go (pieces 47 text) refl
  where
    go : (ps : List (List ℕ)) → pieces 47 text ≡ ps → 47 ∷ text ≡ names_text ps
    go [] e = absurd (pieces_some 47 text e)
    go (p ∷ ps) e = ap (λ t. 47 ∷ t) (sym (ap (join_with_byte 47) (sym e) ∙ joined_pieces 47 text)) ∙ sym (text_joined p ps)

text_more : (ns : List (List ℕ)) (n : List ℕ) → names_text (ns ++ n ∷ []) ≡ names_text ns ++ 47 ∷ n
text_more ns n = flat_map-append (λ n. 47 ∷ n) ns (n ∷ []) ∙ ap (λ t. names_text ns ++ 47 ∷ t) (append-nil n)

all_more : (ns : List (List ℕ)) (n : List ℕ) → list_all is_name ns ≡ true → is_name n ≡ true → list_all is_name (ns ++ n ∷ []) ≡ true
all_more ns n h k = list_all-append is_name ns (n ∷ []) ∙ and-true (list_all is_name ns) (list_all is_name (n ∷ [])) h (and-true (is_name n) true k refl)

-- a text with a slash and a name more at its end
module _ (text slash text2 n : List ℕ) (is : text ≡ names_text (names_in text)) (named : list_all is_name (names_in text) ≡ true) (name : is_name n ≡ true)
    (e : slash ≡ text ++ 47 ∷ []) (f : text2 ≡ slash ++ n) where
  pub one_more : (names_in text2 ≡ names_in text ++ n ∷ []) × ((text2 ≡ names_text (names_in text2)) × (list_all is_name (names_in text2) ≡ true))
  one_more =
      let longer : text2 ≡ names_text (names_in text ++ n ∷ []) = f ∙ ap (λ t. t ++ n) e ∙ append_assoc text (47 ∷ []) n ∙ ap (λ t. t ++ 47 ∷ n) is ∙ sym (text_more (names_in text) n) in
      let valid = all_more (names_in text) n named name in
      let found : names_in text2 ≡ names_in text ++ n ∷ [] = ap names_in longer ∙ names_of_text (names_in text ++ n ∷ []) valid in
      (found, (longer ∙ ap names_text (sym found), ap (list_all is_name) found ∙ valid))

text_injective : (ns ms : List (List ℕ)) → list_all is_name ns ≡ true → list_all is_name ms ≡ true → names_text ns ≡ names_text ms → ns ≡ ms
text_injective ns ms h k e = sym (names_of_text ns h) ∙ ap names_in e ∙ names_of_text ms k

-- paths are equal where their texts are
pub texts_tell : (ns ms : List (List ℕ)) → list_all is_name ns ≡ true → list_all is_name ms ≡ true → bytes_eq (names_text ns) (names_text ms) ≡ path_eq ns ms
texts_tell ns ms h k =
    same_from_decides (bytes_eq (names_text ns) (names_text ms)) (path_eq ns ms)
    (Decides-like (bytes_eq (names_text ns) (names_text ms)) (text_injective ns ms h k) (λ e. ap names_text e) (bytes_eq-Decides (names_text ns) (names_text ms)))
    (path_eq-Decides ns ms)
