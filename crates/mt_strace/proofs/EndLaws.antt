-- What stands at the end of a text.
use Rattle.std.proofs.Common.{◌≡◌, ℕ, ◌-◌, nat_eq, cond, List, [], ◌∷◌, ◌++◌, length, take, drop, Bool, true, false, Option, Some, None, refl, sym, ap, ◌∙◌, arith, append_assoc, length-append, bytes_eq}
use Rattle.std.specs.List.{ends_with}
use Rattle.std.proofs.lemmas.List.{take_at, drop_at, take-append-drop, same_from_push}
use Rattle.std.proofs.lemmas.Slice.Eq.{bytes_eq-Decides}
use Rattle.mt_strace.specs.Strings.{stripped_end}

-- a text does not end with what has another last byte
last_differs : (front text : List ℕ) (a b : ℕ) → (a ≡ b → ⊥) → (t : Bool) → ends_with nat_eq (text ++ b ∷ []) (front ++ a ∷ []) ≡ t → t ≡ false
last_differs front text a b ne false is = refl
last_differs front text a b ne true is =
    let all = text ++ b ∷ [] in
    let n = length all - length (front ++ a ∷ []) in
    let same : front ++ a ∷ [] ≡ drop n all = (bytes_eq-Decides (front ++ a ∷ []) (drop n all)).0 is in
    let split : text ++ b ∷ [] ≡ (take n all ++ front) ++ a ∷ [] =
    sym (take-append-drop n all) ∙ ap (λ x. take n all ++ x) (sym same) ∙ sym (append_assoc (take n all) front (a ∷ [])) in
    absurd (ne (sym (same_from_push text (take n all ++ front) b a split).1))

pub other_end : (front text : List ℕ) (a b : ℕ) → (a ≡ b → ⊥) → stripped_end (front ++ a ∷ []) (text ++ b ∷ []) ≡ None
other_end front text a b ne =
    ap (λ t. cond {A = Option (List ℕ)} t (Some (take (length (text ++ b ∷ []) - length (front ++ a ∷ [])) (text ++ b ∷ []))) None)
    (last_differs front text a b ne (ends_with nat_eq (text ++ b ∷ []) (front ++ a ∷ [])) refl)

-- what is at the end is taken away
pub end_stripped : (end text : List ℕ) → stripped_end end (text ++ end) ≡ Some text
end_stripped end text =
    let n : length (text ++ end) - length end ≡ length text = omega (arith, length-append text end) in
    ap (λ k. cond {A = Option (List ℕ)} (bytes_eq end (drop k (text ++ end))) (Some (take k (text ++ end))) None) n
    ∙ ap (λ xs. cond {A = Option (List ℕ)} (bytes_eq end xs) (Some (take (length text) (text ++ end))) None) (drop_at text end (length text) refl)
    ∙ ap (λ t. cond {A = Option (List ℕ)} t (Some (take (length text) (text ++ end))) None) ((bytes_eq-Decides end end).1 refl)
    ∙ ap (λ x. Some x) (take_at text end (length text) refl)
