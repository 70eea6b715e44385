-- A text of which each `<` was written by its code has none.
use Rattle.std.proofs.Common.{◌≡◌, ℕ, Bool, true, false, not, ◌==◌, ◌&&◌, cond, List, [], ◌∷◌, codes, refl, ap, ◌∙◌, IsTrue}
use Rattle.std.proofs.lemmas.List.Folds.{list_all-append}
use Rattle.std.specs.List.{list_all}
use Rattle.mt_render.specs.PageData.{inert_byte, inert, is_harmless}

byte_harmless : (b : ℕ) → is_harmless (inert_byte b) ≡ true
byte_harmless b = by (b == 60) refl
  where
    by : (t : Bool) → (b == 60) ≡ t → is_harmless (cond t (codes "\\u003c") (b ∷ [])) ≡ true
    by true e = refl
    by false e = ap (λ x. not x && true) e

inert_harmless : (bytes : List ℕ) → is_harmless (inert bytes) ≡ true
inert_harmless [] = refl
inert_harmless (b ∷ bs) = list_all-append (λ x. not (x == 60)) (inert_byte b) (inert bs) ∙ ap (λ x. x && is_harmless (inert bs)) (byte_harmless b) ∙ inert_harmless bs

-- so has a text that is this one
pub text_harmless : (text bytes : List ℕ) → text ≡ inert bytes → IsTrue (is_harmless text)
text_harmless text bytes e = ap is_harmless e ∙ inert_harmless bytes
