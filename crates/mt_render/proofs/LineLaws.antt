-- The cells of the rows of a tree, one after the other.
use Rattle.std.proofs.Common.{◌≡◌, ℕ, suc, ◌+◌, ◌<◌, Bool, List, [], ◌∷◌, ◌++◌, map, drop, length, get_or, drop-cons, refl, sym, ap, ◌∙◌, append_assoc, arith}
use Rattle.mt_render.specs.declared.leads.Strokes.{Strokes}
use Rattle.mt_render.specs.Forest.{BranchView}
use Rattle.mt_render.specs.Columns.{CellsView}
use Rattle.mt_render.specs.Trees.{cells}
use Rattle.mt_render.specs.Steps.{StepView, led, unrolled}

-- the cells of one step more
pub one_line : (s t : Strokes) (lasts next : List Bool) (steps : List StepView) (i : ℕ) (x : StepView) (c : CellsView) (l0 l1 : List CellsView) → i < length steps → x ≡ get_or steps i x → t ≡ s
    → c ≡ cells t (record { lasts = led lasts x; row = x.row }) → next ≡ led lasts x → l1 ≡ l0 ++ c ∷ [] → l1 ++ map (cells s) (unrolled next (drop (i + 1) steps)) ≡ l0 ++ map (cells s) (unrolled lasts (drop i steps))
one_line s t lasts next steps i x c l0 l1 low is same ec en el =
    let b : BranchView = record { lasts = led lasts x; row = x.row } in
    let rest = map (cells s) (unrolled (led lasts x) (drop (i + 1) steps)) in
    let next : suc i ≡ i + 1 = omega arith in
    let here : drop i steps ≡ x ∷ drop (i + 1) steps = drop-cons steps i x low ∙ ap (λ y. y ∷ drop (suc i) steps) (sym is) ∙ ap (λ n. x ∷ drop n steps) next in
    (λ k. el k ++ map (cells s) (unrolled (en k) (drop (i + 1) steps))) ∙ append_assoc l0 (c ∷ []) rest ∙ ap (λ d. l0 ++ d ∷ rest) (ec ∙ ap (λ u. cells u b) same)
    ∙ ap (λ ss. l0 ++ map (cells s) (unrolled lasts ss)) (sym here)
