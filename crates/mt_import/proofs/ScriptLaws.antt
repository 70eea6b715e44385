-- A script with more lines.
use Rattle.std.proofs.Common.{◌≡◌, ℕ, true, ◌&&◌, List, [], ◌∷◌, ◌++◌, refl, sym, ap, ◌∙◌, append_assoc}
use Rattle.std.proofs.lemmas.List.{append-nil}
use Rattle.std.proofs.lemmas.List.Folds.{list_all-append}
use Rattle.std.specs.List.{flat_map, list_all}
use Rattle.mt_import.specs.Script.{is_script_line, IsScript}

-- the text of lines and of others after them
text_more : (lines others : List (List ℕ)) → flat_map (λ l. l ++ 10 ∷ []) (lines ++ others) ≡ flat_map (λ l. l ++ 10 ∷ []) lines ++ flat_map (λ l. l ++ 10 ∷ []) others
text_more [] others = refl
text_more (l ∷ ls) others =
    ap (λ x. (l ++ 10 ∷ []) ++ x) (text_more ls others)
    ∙ sym (append_assoc (l ++ 10 ∷ []) (flat_map (λ l. l ++ 10 ∷ []) ls) (flat_map (λ l. l ++ 10 ∷ []) others))

-- a script with another one after it is one
pub both_scripts : (old more new : List ℕ) → IsScript old → IsScript more → new ≡ old ++ more → IsScript new
both_scripts old more new (lines, text, all) (others, behind, rest) e = (
  lines ++ others,
  e ∙ (λ i. text i ++ behind i) ∙ sym (text_more lines others),
  list_all-append is_script_line lines others ∙ ap (λ b. b && list_all is_script_line others) all ∙ rest,
)

-- and so with one more line
pub with_line : (old line new : List ℕ) → IsScript old → is_script_line line ≡ true → new ≡ old ++ (line ++ 10 ∷ []) → IsScript new
with_line old line new script is e =
    both_scripts old (line ++ 10 ∷ []) new script (line ∷ [], sym (append-nil (line ++ 10 ∷ [])), ap (λ b. b && true) is) e
