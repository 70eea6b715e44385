-- Rows in the order of a tree, as a stack of steps gives them.
use Rattle.std.proofs.Common.{◌≡◌, ℕ, zero, suc, ◌+◌, ◌-◌, ◌<◌, ◌≤◌, Bool, true, false, cond, ◌==◌, List, [], ◌∷◌, ◌++◌, map, reverse, length, drop, get_or, drop-cons, length-drop, refl, sym, ap, ◌∙◌, append_assoc, length-append, arith}
use Rattle.std.specs.Prelude.{nat_lt}
use Rattle.std.specs.List.{flat_map, filter}
use Rattle.std.proofs.lemmas.Bool.Decides.{nat_tests}
use Rattle.std.proofs.lemmas.List.{reverse-append, reverse-reverse}
use Rattle.std.proofs.lemmas.Grind.{flat_map-append}
use Rattle.mt_info.specs.declared.row.Row.{Row}
use Rattle.mt_render.specs.Forest.{child_rows}
use Rattle.mt_render.specs.Steps.{StepView, steps_at, steps_below, next_steps, steps_from}

-- a step and all below it, as many generations as there can be
abbrev pub grown_at : List Row → StepView → List StepView
grown_at rows s = steps_from rows (length rows - s.depth) s

-- a list from its last element down: one more
one_more : {X : Type 0} (xs : List X) (step : ℕ) (x : X) → step < length xs → x ≡ get_or xs (length xs - 1 - step) x → drop (length xs - (step + 1)) xs ≡ x ∷ drop (length xs - step) xs
one_more xs step x low e =
    let k = length xs - 1 - step in
    let here : length xs - (step + 1) ≡ k = omega (arith, low) in
    let next : suc k ≡ length xs - step = omega (arith, low) in
    let within : k < length xs = omega (arith, low) in
    ap (λ n. drop n xs) here ∙ drop-cons xs k x within ∙ ap (λ y. y ∷ drop (suc k) xs) (sym e) ∙ ap (λ n. x ∷ drop n xs) next

-- one child more on the stack
pub step_pushed : {X : Type 0} (f : X → Row) (depth step : ℕ) (xs : List X) (x : X) (last : Bool) (s0 s1 s2 : List StepView) → step < length xs → x ≡ get_or xs (length xs - 1 - step) x → last ≡ (step == 0)
    → s1 ≡ s0 ++ reverse (steps_at depth (map f (drop (length xs - step) xs))) → s2 ≡ s1 ++ record { depth = depth; is_last = last; row = f x } ∷ []
    → s2 ≡ s0 ++ reverse (steps_at depth (map f (drop (length xs - (step + 1)) xs)))
step_pushed f depth step xs x last s0 s1 s2 low here is_last e1 e2 =
    let rest = map f (drop (length xs - step) xs) in
    let left : length rest ≡ step = mapped f (drop (length xs - step) xs) ∙ length-drop (length xs - step) xs ∙ omega (arith, low) in
    let s : StepView = record { depth = depth; is_last = length rest == 0; row = f x } in
    let turned : reverse (s ∷ steps_at depth rest) ≡ reverse (steps_at depth rest) ++ s ∷ [] = reverse-append (s ∷ []) (steps_at depth rest) in
    e2 ∙ (λ i. e1 i ++ record { depth = depth; is_last = (is_last ∙ ap (λ n. n == 0) (sym left)) i; row = f x } ∷ []) ∙ append_assoc s0 (reverse (steps_at depth rest)) (s ∷ []) ∙ ap (λ u. s0 ++ u) (sym turned)
    ∙ ap (λ ys. s0 ++ reverse (steps_at depth (map f ys))) (sym (one_more xs step x low here))
  where
    mapped : {X : Type 0} (f : X → Row) (ys : List X) → length (map f ys) ≡ length ys
    mapped f [] = refl
    mapped f (y ∷ ys) = ap suc (mapped f ys)

-- the children of a step stand one generation lower
below : (rows : List Row) (n depth : ℕ) (cs : List Row) → length rows ≡ n + depth → flat_map (λ c. steps_from rows n c) (steps_at depth cs) ≡ flat_map (grown_at rows) (steps_at depth cs)
below rows n depth [] e = refl
below rows n depth (c ∷ cs) e =
    let s : StepView = record { depth = depth; is_last = length cs == 0; row = c } in
    let fuel : n ≡ length rows - depth = omega (arith, e) in
    ap (λ k. steps_from rows k s ++ flat_map (λ c. steps_from rows n c) (steps_at depth cs)) fuel ∙ ap (λ t. grown_at rows s ++ t) (below rows n depth cs e)

-- a step and its children, each with all below it
grown_once : (rows : List Row) (s : StepView) → grown_at rows s ≡ s ∷ flat_map (grown_at rows) (next_steps rows s)
grown_once rows s = go (nat_lt s.depth (length rows)) refl
  where
    go : (u : Bool) → nat_lt s.depth (length rows) ≡ u → steps_from rows (length rows - s.depth) s ≡ s ∷ flat_map (grown_at rows) (cond u (steps_below rows s) [])
    go true e =
        let n = length rows - suc s.depth in
        let lower : s.depth < length rows = grind (arith, nat_tests) in
        let fuel : length rows - s.depth ≡ suc n = omega (arith, lower) in
        ap (λ k. steps_from rows k s) fuel ∙ ap (λ t. s ∷ t) (below rows n (s.depth + 1) (child_rows rows s.row) (omega (arith, lower)))
    go false e =
        let high : length rows ≤ s.depth = grind (arith, nat_tests) in
        let fuel : length rows - s.depth ≡ 0 = omega (arith, high) in
        ap (λ k. steps_from rows k s) fuel

-- the step on top of a stack comes first
popped : (rows : List Row) (s : StepView) (s0 s1 : List StepView) → s0 ≡ s1 ++ s ∷ [] → flat_map (grown_at rows) (reverse s0) ≡ grown_at rows s ++ flat_map (grown_at rows) (reverse s1)
popped rows s s0 s1 e = ap (λ t. flat_map (grown_at rows) (reverse t)) e ∙ ap (λ t. flat_map (grown_at rows) t) (reverse-append s1 (s ∷ []))

-- steps that were pushed in falling order come in rising order
came : (rows : List Row) (cs s0 s1 : List StepView) → s1 ≡ s0 ++ reverse cs → flat_map (grown_at rows) (reverse s1) ≡ flat_map (grown_at rows) cs ++ flat_map (grown_at rows) (reverse s0)
came rows cs s0 s1 e =
    ap (λ s. flat_map (grown_at rows) (reverse s)) e
    ∙ ap (λ s. flat_map (grown_at rows) s) (reverse-append s0 (reverse cs) ∙ ap (λ t. t ++ reverse s0) (reverse-reverse cs))
    ∙ flat_map-append (grown_at rows) cs (reverse s0)

-- a step goes from the stack to what is drawn: the stack before, once it was taken, and with its children on it
pub drawn_one : (rows : List Row) (s : StepView) (s0 s1 s2 d0 d1 : List StepView)
    → s0 ≡ s1 ++ s ∷ [] → s2 ≡ s1 ++ reverse (next_steps rows s) → d1 ≡ d0 ++ s ∷ [] → d1 ++ flat_map (grown_at rows) (reverse s2) ≡ d0 ++ flat_map (grown_at rows) (reverse s0)
drawn_one rows s s0 s1 s2 d0 d1 e0 e2 ed =
    let cs = next_steps rows s in
    let rest = flat_map (grown_at rows) (reverse s1) in
    let inner = flat_map (grown_at rows) cs in
    ap (λ t. d1 ++ t) (came rows cs s1 s2 e2) ∙ ap (λ d. d ++ (inner ++ rest)) ed ∙ append_assoc d0 (s ∷ []) (inner ++ rest)
    ∙ ap (λ t. d0 ++ t) (ap (λ t. t ++ rest) (sym (grown_once rows s)) ∙ sym (popped rows s s0 s1 e0))

-- so less is to come
pub fewer : (rows : List Row) (s : StepView) (s0 s1 s2 d0 d1 : List StepView)
    → s0 ≡ s1 ++ s ∷ [] → s2 ≡ s1 ++ reverse (next_steps rows s) → d1 ≡ d0 ++ s ∷ [] → length (flat_map (grown_at rows) (reverse s2)) < length (flat_map (grown_at rows) (reverse s0))
fewer rows s s0 s1 s2 d0 d1 e0 e2 ed =
    let rest0 = flat_map (grown_at rows) (reverse s0) in
    let rest1 = flat_map (grown_at rows) (reverse s2) in
    let e = drawn_one rows s s0 s1 s2 d0 d1 e0 e2 ed in
    let one : length (s ∷ []) ≡ 1 = refl in
    let counted = sym (length-append d1 rest1) ∙ ap (λ (t : List StepView). length t) e ∙ length-append d0 rest0 in
    let more = ap (λ (t : List StepView). length t) ed ∙ length-append d0 (s ∷ []) in
    omega (arith, counted, more, one)
