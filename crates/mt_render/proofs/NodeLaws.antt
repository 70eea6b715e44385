-- The objects of the children of a row, once all rows were looked at, and those of all rows of a table.
use Rattle.std.proofs.Common.{◌≡◌, ℕ, zero, suc, ◌+◌, ◌-◌, ◌<◌, ◌≤◌, List, [], ◌∷◌, ◌++◌, map, length, drop, drop-cons, get_or, refl, sym, ap, ◌∙◌, arith, append-nil, append_assoc}
use Rattle.std.proofs.lemmas.List.{drop_all}
use Rattle.std.specs.List.{filter}
use Rattle.serde_json.specs.Data.{Data}
use Rattle.serde_json.specs.View.{view}
use Rattle.serde_json.specs.declared.value.Value.{Value}
use Rattle.mt_info.specs.declared.row.Row.{Row}
use Rattle.mt_render.specs.Forest.{is_top, child_rows, tree, strays}
use Rattle.mt_render.specs.Objects.{node_with, flat_node, node, most_generations, tree_nodes}
use Rattle.mt_render.specs.Steps.{StepView, step_of, stands_deep}
use Rattle.mt_render.proofs.StepLaws.{deep_steps, stray_nodes}

map_last : {X Y : Type 0} (f : X → Y) (xs : List X) (x : X) → map f (xs ++ x ∷ []) ≡ map f xs ++ f x ∷ []
map_last f [] x = refl
map_last f (y ∷ ys) x = ap (λ zs. f y ∷ zs) (map_last f ys x)

-- the object of one child more
pub one_node : {X : Type 0} (f : X → Row) (g : Row → Data) (items : List X) (i : ℕ) (x : X) (v : Value) (v0 v1 : List Value) → i < length items → x ≡ get_or items i x → v1 ≡ v0 ++ v ∷ [] → view v ≡ g (f x)
    → map view v1 ++ map g (map f (drop (i + 1) items)) ≡ map view v0 ++ map g (map f (drop i items))
one_node f g items i x v v0 v1 low is e made =
    let rest = map g (map f (drop (i + 1) items)) in
    let next : suc i ≡ i + 1 = omega arith in
    let here : drop i items ≡ x ∷ drop (i + 1) items = drop-cons items i x low ∙ ap (λ y. y ∷ drop (suc i) items) (sym is) ∙ ap (λ k. x ∷ drop k items) next in
    ap (λ vs. map view vs ++ rest) e ∙ ap (λ ds. ds ++ rest) (map_last view v0 v) ∙ append_assoc (map view v0) (view v ∷ []) rest ∙ ap (λ d. map view v0 ++ d ∷ rest) made
    ∙ ap (λ ys. map view v0 ++ map g (map f ys)) (sym here)

-- the object of a row once all its children were made
pub node_is : {X : Type 0} (f : X → Row) (rows : List Row) (n : ℕ) (r : Row) (items : List X) (i : ℕ) (ds : List Data) (v : Data) → (n ≡ 0 → ⊥) → length items ≤ i
    → ds ++ map (node rows (n - 1)) (map f (drop i items)) ≡ map (node rows (n - 1)) (child_rows rows r) → v ≡ node_with r ds → v ≡ node rows n r
node_is f rows zero r items i ds v some end all is = absurd (some refl)
node_is f rows (suc m) r items i ds v some end all is =
    let less : suc m - 1 ≡ m = omega arith in
    let made : ds ≡ map (node rows (suc m - 1)) (child_rows rows r) =
    sym (append-nil ds) ∙ ap (λ ys. ds ++ map (node rows (suc m - 1)) (map f ys)) (sym (drop_all i items end)) ∙ all in
    is ∙ ap (λ es. node_with r es) made ∙ ap (λ k. node_with r (map (node rows k) (child_rows rows r))) less

abbrev top_nodes : List Row → List Data
top_nodes rows = map (node rows most_generations) (filter (is_top rows) rows)

abbrev flat_steps : List StepView → List Data
flat_steps steps = map (λ (s : StepView). flat_node s.row) steps

-- the nested objects of a table, then those that stand too deep, and then those of rows in no tree
pub nodes_joined : (rows table : List Row) (drawn others : List StepView) (top deep all : List Data) → top ≡ map (node rows most_generations) (filter (is_top rows) rows)
    → deep ≡ top ++ map (λ (s : StepView). flat_node s.row) (filter stands_deep drawn) → all ≡ deep ++ map (λ (s : StepView). flat_node s.row) others → rows ≡ table → drawn ≡ map step_of (tree rows) → others ≡ map step_of (strays rows)
    → all ≡ tree_nodes table
nodes_joined rows table drawn others top deep all e0 e1 e2 same d o =
    e2 ∙ ap (λ ds. ds ++ flat_steps others) (e1 ∙ ap (λ ds. ds ++ flat_steps (filter stands_deep drawn)) e0) ∙ append_assoc (top_nodes rows) (flat_steps (filter stands_deep drawn)) (flat_steps others)
    ∙ (λ i. top_nodes rows ++ ((ap (λ ss. flat_steps (filter stands_deep ss)) d ∙ deep_steps (tree rows)) i ++ (ap flat_steps o ∙ stray_nodes (strays rows)) i)) ∙ ap tree_nodes same
