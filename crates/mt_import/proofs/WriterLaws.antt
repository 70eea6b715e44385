-- Words between spaces.
use Rattle.std.proofs.Common.{Bor, ◌≡◌, ℕ, List, [], ◌∷◌, ◌++◌, codes, decimal, map, sym, ap, ◌∙◌}
use Rattle.std.proofs.lemmas.List.{append-nil}
use Rattle.std.specs.List.{flat_map, join_with_byte}
use Rattle.mt_import.specs.Script.{line_text, group_comment}

-- words of which the first stands alone and the others each preceded by the byte between
behind : (first : List ℕ) (words : List (Bor (List ℕ))) → join_with_byte 32 (first ∷ map (λ word. word.now) words) ≡ first ++ flat_map (λ word. 32 ∷ word.now) words
behind first [] = sym (append-nil first)
behind first (word ∷ words) = ap (λ rest. first ++ 32 ∷ rest) (behind word.now words)

-- words of which the first was appended alone
pub words_joined : (words others : List (Bor (List ℕ))) (first : Bor (List ℕ)) (begun all : List ℕ) → words ≡ first ∷ others → begun ≡ first.now
    → all ≡ begun ++ flat_map (λ word. 32 ∷ word.now) others → all ≡ join_with_byte 32 (map (λ word. word.now) words)
words_joined words others first begun all is e f =
    f ∙ ap (λ x. x ++ flat_map (λ word. 32 ∷ word.now) others) e ∙ sym (behind first.now others)
    ∙ ap (λ x. join_with_byte 32 (map (λ word. word.now) x)) (sym is)

-- a group is told by the digits of its numbers
pub group_told : (old t h new : List ℕ) (there here : ℕ) → t ≡ decimal there → h ≡ decimal here
    → new ≡ old ++ line_text (flat_map (λ x. x) (codes "# shared:" ∷ t ∷ codes " of the tables is shared:" ∷ h ∷ [])) → new ≡ old ++ group_comment there here
unfolding group_comment
group_told old t h new there here d e f =
    f ∙ ap (λ x. old ++ line_text (flat_map (λ y. y) (codes "# shared:" ∷ x ∷ codes " of the tables is shared:" ∷ h ∷ []))) d
    ∙ ap (λ x. old ++ line_text (flat_map (λ y. y) (codes "# shared:" ∷ decimal there ∷ codes " of the tables is shared:" ∷ x ∷ []))) e
