-- Words that are the one spelling of what they stand for.
use Rattle.std.proofs.Common.{◌≡◌, ◌≢◌, ℕ, List, [], ◌∷◌, ◌++◌, ◌&&◌, ◌==◌, Bool, not, true, false, Some, refl, sym, ap, ◌∙◌}
use Rattle.std.specs.List.{list_all}
use Rattle.std.proofs.lemmas.Bool.{false≢true, ne_eqb, and_parts, not-true}
use Rattle.mt_skel.specs.Escapes.{unescaped, escaped, escaped_byte}
use Rattle.mt_skel.proofs.UnescapeLaws.{IsKept, all_kept}
use Rattle.mt_info.specs.Reading.{is_bare}
use Rattle.mt_info.proofs.WordLaws.{bare, escaped-bare, escaped-injective}

-- a word without spaces, tabs and newlines is the one spelling of what it stands for
abbrev IsSpelling : List ℕ → List ℕ → Type 0
IsSpelling w b = bare w ≡ true → w ≡ escaped b

plain_byte : (x : ℕ) → x ≢ 92 → is_bare x ≡ true → escaped_byte x ≡ x ∷ []
plain_byte x ne h =
    let p = and_parts (not (x == 32) && not (x == 9)) (not (x == 10)) h in
    let q = and_parts (not (x == 32)) (not (x == 9)) p.0 in
    rw (not-true (x == 32) q.0, not-true (x == 9) q.1, not-true (x == 10) p.1, ne_eqb x 92 ne) refl

spelling_kept : IsKept IsSpelling
spelling_kept = record {
  nil = λ _. refl;
  plain = λ x w b ne ih h.
      let parts = and_parts (is_bare x) (list_all is_bare w) h in
      ap (λ t. x ∷ t) (ih parts.1) ∙ ap (λ t. t ++ escaped b) (sym (plain_byte x ne parts.0));
  space = λ w b ih h. ap (λ t. 92 ∷ 48 ∷ 52 ∷ 48 ∷ t) (ih h);
  tab = λ w b ih h. ap (λ t. 92 ∷ 48 ∷ 49 ∷ 49 ∷ t) (ih h);
  newline = λ w b ih h. ap (λ t. 92 ∷ 48 ∷ 49 ∷ 50 ∷ t) (ih h);
  backslash = λ w b ih h. ap (λ t. 92 ∷ 49 ∷ 51 ∷ 52 ∷ t) (ih h);
}

-- so a word without such bytes is the escaped form of what it stands for
pub spelling : (w b : List ℕ) → list_all is_bare w ≡ true → unescaped w ≡ Some b → w ≡ escaped b
spelling w b bare h = all_kept IsSpelling spelling_kept w b h bare

-- a word with such a byte spells nothing
pub not_spelled : (w b : List ℕ) → list_all is_bare w ≡ false → w ≢ escaped b
not_spelled w b other e = let yes : list_all is_bare w ≡ true = ap (list_all is_bare) e ∙ escaped-bare b in cc

-- and one that spells what is no valid text spells no valid one
pub other_said : (valid : List ℕ → Bool) (w bytes : List ℕ) → w ≡ escaped bytes → (valid bytes ≡ true → false ≡ true) → (text : List ℕ) → valid text ≡ true → w ≢ escaped text
other_said valid w bytes is none text h e = false≢true (none (ap valid (escaped-injective bytes text (sym is ∙ e)) ∙ h))
