-- Words with a zero byte between two.
use Rattle.std.proofs.Common.{◌≡◌, ℕ, ◌+◌, ◌<◌, ◌≤◌, List, [], ◌∷◌, ◌++◌, length, drop, get_or, Option, Some, None, cond, refl, ap, sym, ◌∙◌, Bor, append_assoc, append-nil}
use Rattle.std.specs.Prelude.{map, fold}
use Rattle.std.specs.List.{flat_map}
use Rattle.std.proofs.lemmas.List.{at_drop_more, at_drop_all}
use Rattle.mt_forms.specs.declared.split.Before.{Before}
use Rattle.mt_forms.specs.Splitting.{start, next_byte, is_closed, emitted, emitted_from, split_text, joined_text}

-- words of which the first was appended alone
pub words_joined : (words others : List (Bor (List ℕ))) (first : Bor (List ℕ)) (one all : List ℕ) → words ≡ first ∷ others → one ≡ first.now
    → all ≡ one ++ flat_map (λ word. 0 ∷ word.now) others → all ≡ joined_text (map (λ word. word.now) words)
words_joined words others first one all is e f =
    f ∙ ap (λ x. x ++ flat_map (λ word. 0 ∷ word.now) others) e
    ∙ ap (λ x. first.now ++ x) (behind others)
    ∙ ap (λ x. joined_text (map (λ word. word.now) x)) (sym is)
  where
    behind : (ws : List (Bor (List ℕ))) → flat_map (λ word. 0 ∷ word.now) ws ≡ flat_map (λ w. 0 ∷ w) (map (λ word. word.now) ws)
    behind [] = refl
    behind (w ∷ ws) = ap (λ x. 0 ∷ w.now ++ x) (behind ws)

-- a byte of which what it gives was appended
pub byte_told : (line : List ℕ) (i : ℕ) (before after : Before) (text more : List ℕ) → i < length line → after ≡ next_byte before (get_or line i 0)
    → more ≡ text ++ emitted before (get_or line i 0) → more ++ emitted_from after (drop (i + 1) line) ≡ text ++ emitted_from before (drop i line)
byte_told line i before after text more within stepped pushed =
    let rest = drop (i + 1) line in
    let given = emitted before (get_or line i 0) in
    ap (λ x. x ++ emitted_from after rest) pushed
    ∙ append_assoc text given (emitted_from after rest)
    ∙ ap (λ (s : Before). text ++ (given ++ emitted_from s rest)) stepped
    ∙ ap (λ x. text ++ x) (sym (at_drop_more (emitted_from before) line i 0 within))

-- a text that is read to its end
pub text_split : (line : List ℕ) (i : ℕ) (before : Before) (text : List ℕ) → length line ≤ i
    → fold next_byte before (drop i line) ≡ fold next_byte start line → text ++ emitted_from before (drop i line) ≡ emitted_from start line
    → cond {A = Option (List ℕ)} (is_closed before) (Some text) None ≡ split_text line
text_split line i before text ended state told =
    let last : before ≡ fold next_byte start line = sym (at_drop_all (fold next_byte before) line i ended) ∙ state in
    let all : text ≡ emitted_from start line = sym (append-nil text) ∙ sym (at_drop_all (λ rest. text ++ emitted_from before rest) line i ended) ∙ told in
    ap (λ x. cond {A = Option (List ℕ)} (is_closed before) (Some x) None) all
    ∙ ap (λ (s : Before). cond {A = Option (List ℕ)} (is_closed s) (Some (emitted_from start line)) None) last
