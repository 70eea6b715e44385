-- Changes, told one after another.
use Rattle.std.proofs.Common.{◌≡◌, ℕ, ◌+◌, ◌<◌, ◌≤◌, List, [], ◌∷◌, ◌++◌, length, take, drop, get_or, ap, sym, ◌∙◌, append_assoc, append-nil}
use Rattle.std.proofs.lemmas.List.{drop_more, drop_all}
use Rattle.mt_skel.proofs.ListLaws.{take_next}
use Rattle.mt_what_if.specs.Abridged.{ToldChange, one_of, abridged_from}

-- one more is told behind those that were
pub abridged_step :
    (all : List ToldChange) (k : ℕ) (x : ToldChange) (text new start : List ℕ) → k < length all → x ≡ get_or all k x → new ≡ text ++ one_of all (take k all) x
    → text ++ abridged_from all (take k all) (drop k all) ≡ start → new ++ abridged_from all (take (k + 1) all) (drop (k + 1) all) ≡ start
abridged_step all k x text new start l at e h =
    let rest : List ToldChange = drop (k + 1) all in
    let left : drop k all ≡ x ∷ rest = drop_more all k x l ∙ ap (λ (y : ToldChange). y ∷ rest) (sym at) in
    ap (λ (t : List ℕ). t ++ abridged_from all (take (k + 1) all) rest) e
    ∙ ap (λ (es : List ToldChange). (text ++ one_of all (take k all) x) ++ abridged_from all es rest) (take_next all k x l at)
    ∙ append_assoc text (one_of all (take k all) x) (abridged_from all (take k all ++ x ∷ []) rest)
    ∙ sym (ap (λ (xs : List ToldChange). text ++ abridged_from all (take k all) xs) left) ∙ h

-- all of them are told
pub abridged_end :
    (all : List ToldChange) (k : ℕ) (text start : List ℕ) → length all ≤ k → text ++ abridged_from all (take k all) (drop k all) ≡ start → text ≡ start
abridged_end all k text start l h =
    sym (append-nil text) ∙ sym (ap (λ (xs : List ToldChange). text ++ abridged_from all (take k all) xs) (drop_all k all l)) ∙ h
