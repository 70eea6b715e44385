-- Each row of a table is drawn once.
use Rattle.std.proofs.Common.{◌≡◌, ℕ, zero, suc, ◌+◌, Bool, true, false, not, cond, ◌&&◌, ◌==◌, eqb-true, List, [], ◌∷◌, ◌++◌, map, length, Option, Some, None, is_none, append_assoc, refl, sym, ap, subst, ◌∙◌, arith}
use Rattle.std.specs.List.{filter, flat_map, AllByRecursion}
use Rattle.std.specs.Option.{option_map_or}
use Rattle.std.proofs.lemmas.Bool.Decides.{nat_tests}
use Rattle.mt_skel.specs.Keyed.{row_at, rises}
use Rattle.mt_skel.specs.Counted.{count}
use Rattle.mt_skel.specs.Chain.{chain, ends}
use Rattle.mt_skel.proofs.CountLaws.{count-same, count-append, count-map, count-filter, count-row, any-is}
use Rattle.mt_skel.proofs.KeyedLaws.{row_at-key}
use Rattle.mt_skel.proofs.MiddleLaws.{row_mid}
use Rattle.mt_info.specs.declared.row.Row.{Row}
use Rattle.mt_info.specs.Table.{row_id}
use Rattle.mt_render.specs.Forest.{BranchView, without_lines, parent_row, is_top, is_child, child_rows, branches, drawn_from, tree, is_drawn, strays}
use Rattle.mt_render.specs.Laws.{IsIn, is_of}

-- the sum of these numbers
abbrev sum_over : {X : Type 0} → (X → ℕ) → List X → ℕ
sum_over f [] = 0
sum_over f (x ∷ xs) = f x + sum_over f xs

abbrev one_if : Bool → ℕ
one_if b = cond b 1 0

same_turned : (a b : ℕ) → (a == b) ≡ (b == a)
same_turned a b = grind (arith, nat_tests)

sum-zero : {X : Type 0} (xs : List X) → sum_over (λ (x : X). 0) xs ≡ 0
sum-zero [] = refl
sum-zero (x ∷ xs) = ap (λ n. 0 + n) (sum-zero xs)

-- one more for each that passes a test
sum-more : {X : Type 0} (t : X → Bool) (f : X → ℕ) (xs : List X) → sum_over (λ x. cond (t x) (suc (f x)) (f x)) xs ≡ count t xs + sum_over f xs
sum-more t f [] = refl
sum-more t f (x ∷ xs) = go (t x) (f x) (count t xs) (sum_over f xs) _ (sum-more t f xs)
  where
    go : (b : Bool) (k m n l : ℕ) → l ≡ m + n → cond b (suc k) k + l ≡ cond b (suc m) m + (k + n)
    go true k m n l e = rw e (omega arith)
    go false k m n l e = rw e (omega arith)

module _ (rows : List Row) (rising : rises row_id rows ≡ true) where
  -- rows of the table with the ID of one that pass a test: that one, if it does
  count-one : (s : Row → Bool) (a : Row) → IsIn rows a → count (λ x. s x && (x.id == a.id)) rows ≡ cond (s a) 1 0
  count-one s a there =
      count-same (λ x. s x && (x.id == a.id)) (λ x. (x.id == a.id) && s x) (λ x. turned (s x) (x.id == a.id)) rows
      ∙ count-row row_id s a.id rows rising ∙ ap (λ o. option_map_or (λ x. cond (s x) 1 0) o 0) there
    where
      turned : (b c : Bool) → (b && c) ≡ (c && b)
      turned true true = refl
      turned true false = refl
      turned false true = refl
      turned false false = refl

  count-own : (s : Row → Bool) (a : Row) → IsIn rows a → count (λ x. s x && (a.id == x.id)) rows ≡ cond (s a) 1 0
  count-own s a there = count-same (λ x. s x && (a.id == x.id)) (λ x. s x && (x.id == a.id)) (λ x. ap (λ b. s x && b) (same_turned a.id x.id)) rows ∙ count-one s a there

  -- rows of the table, counted by which of those that pass a test they are
  exchanged : (s : Row → Bool) (path : List Row) → AllByRecursion (IsIn rows) path
      → sum_over (λ c. count (λ a. a.id == c.id) path) (filter s rows) ≡ count s path
  exchanged s [] all = sum-zero (filter s rows)
  exchanged s (a ∷ path) all =
      sum-more (λ c. a.id == c.id) (λ c. count (λ a. a.id == c.id) path) (filter s rows)
      ∙ ap (λ n. n + sum_over (λ c. count (λ a. a.id == c.id) path) (filter s rows)) (count-filter (λ c. a.id == c.id) s rows ∙ count-own s a all.0)
      ∙ ap (λ n. cond (s a) 1 0 + n) (exchanged s path all.1) ∙ put (s a) (count s path)
    where
      put : (b : Bool) (n : ℕ) → cond b 1 0 + n ≡ cond b (suc n) n
      put true n = omega arith
      put false n = omega arith

  -- a parent's row is one of the table
  parent-in : (r y : Row) → parent_row rows r ≡ Some y → IsIn rows y
  parent-in r y e = go (r.parent == r.id) e
    where
      go : (b : Bool) → cond b None (row_at row_id r.parent rows) ≡ Some y → IsIn rows y
      go true e = absurd (cc)
      go false e = ap (λ k. row_at row_id k rows) (row_at-key row_id r.parent rows y e) ∙ e

  chain-in : (n : ℕ) (r : Row) → IsIn rows r → AllByRecursion (IsIn rows) (chain (parent_row rows) n r)
  chain-in zero r there = (there, tt)
  chain-in (suc n) r there = (there, rest (parent_row rows r) refl (chain-in n))
    where
      rest : (o : Option Row) → parent_row rows r ≡ o → ((y : Row) → IsIn rows y → AllByRecursion (IsIn rows) (chain (parent_row rows) n y)) → AllByRecursion (IsIn rows) (option_map_or (λ y. chain (parent_row rows) n y) o [])
      rest None e ih = tt
      rest (Some y) e ih = ih y (parent-in r y e)

  -- a row is a child of a row of the table exactly if that is its parent's
  child-is : (b r : Row) → IsIn rows b → one_if (is_child b.id r) ≡ option_map_or (λ y. one_if (y.id == b.id)) (parent_row rows r) 0
  child-is b r there = go (r.parent == b.id) refl (r.parent == r.id) refl (row_at row_id r.parent rows) refl
    where
      go : (u : Bool) → (r.parent == b.id) ≡ u → (v : Bool) → (r.parent == r.id) ≡ v → (o : Option Row) → row_at row_id r.parent rows ≡ o
          → one_if (u && not (r.id == b.id)) ≡ option_map_or (λ y. one_if (y.id == b.id)) (cond v None o) 0
      go true eu true ev o eo =
          let one : r.parent ≡ b.id = eqb-true r.parent b.id eu in
          let two : r.parent ≡ r.id = eqb-true r.parent r.id ev in
          let same : (r.id == b.id) ≡ true = grind (arith, nat_tests) in
          ap (λ k. one_if (not k)) same
      go true eu false ev None eo =
          let one : r.parent ≡ b.id = eqb-true r.parent b.id eu in
          let none : None ≡ Some b = sym eo ∙ ap (λ k. row_at row_id k rows) one ∙ there in
          absurd (cc)
      go true eu false ev (Some y) eo =
          let one : r.parent ≡ b.id = eqb-true r.parent b.id eu in
          let key : y.id ≡ r.parent = row_at-key row_id r.parent rows y eo in
          let apart : (r.id == b.id) ≡ false = grind (arith, nat_tests) in
          let same : (y.id == b.id) ≡ true = grind (arith, nat_tests) in
          ap (λ k. one_if (not k)) apart ∙ ap (λ k. one_if k) (sym same)
      go false eu true ev o eo = refl
      go false eu false ev None eo = refl
      go false eu false ev (Some y) eo =
          let key : y.id ≡ r.parent = row_at-key row_id r.parent rows y eo in
          let apart : (y.id == b.id) ≡ false = grind (arith, nat_tests) in
          ap (λ k. one_if k) (sym apart)

  -- the children of a row on a chain of parents are followed by it
  followed : (n : ℕ) (b r : Row) → IsIn rows b
      → count (is_child b.id) (chain (parent_row rows) n r) ≡ count (λ a. a.id == b.id) (option_map_or (λ y. chain (parent_row rows) n y) (parent_row rows r) [])
  followed zero b r there = child-is b r there ∙ go (parent_row rows r)
    where
      go : (o : Option Row) → option_map_or (λ (y : Row). one_if (y.id == b.id)) o 0 ≡ count (λ a. a.id == b.id) (option_map_or (λ y. chain (parent_row rows) zero y) o [])
      go None = refl
      go (Some y) = refl
  followed (suc n) b r there =
      let rest = count (is_child b.id) (option_map_or (λ y. chain (parent_row rows) n y) (parent_row rows r) []) in
      split (is_child b.id r) rest ∙ ap (λ k. k + rest) (child-is b r there) ∙ go (parent_row rows r) (λ y. followed n b y there)
    where
      split : (u : Bool) (m : ℕ) → cond u (suc m) m ≡ cond u 1 0 + m
      split true m = omega arith
      split false m = omega arith

      go : (o : Option Row)
          → ((y : Row) → count (is_child b.id) (chain (parent_row rows) n y) ≡ count (λ a. a.id == b.id) (option_map_or (λ z. chain (parent_row rows) n z) (parent_row rows y) []))
          → option_map_or (λ (y : Row). one_if (y.id == b.id)) o 0 + count (is_child b.id) (option_map_or (λ y. chain (parent_row rows) n y) o [])
          ≡ count (λ a. a.id == b.id) (option_map_or (λ y. chain (parent_row rows) (suc n) y) o [])
      go None ih = refl
      go (Some y) ih = ap (λ k. one_if (y.id == b.id) + k) (ih y) ∙ sym (split (y.id == b.id) (count (λ a. a.id == b.id) (option_map_or (λ z. chain (parent_row rows) n z) (parent_row rows y) [])))

  -- branches, counted by the chain of a row's parents
  spread : (n : ℕ) (r : Row)
      → ((lasts : List Bool) (c : Row) → IsIn rows c → count (is_of r.id) (drawn_from rows n (record { lasts = lasts; row = c })) ≡ count (λ a. a.id == c.id) (chain (parent_row rows) n r))
      → (lasts : List Bool) (cs : List Row) → AllByRecursion (IsIn rows) cs
      → count (is_of r.id) (flat_map (λ c. drawn_from rows n c) (branches lasts cs)) ≡ sum_over (λ c. count (λ a. a.id == c.id) (chain (parent_row rows) n r)) cs
  spread n r ih lasts [] all = refl
  spread n r ih lasts (c ∷ cs) all =
      let b : BranchView = record { lasts = lasts ++ (length cs == 0) ∷ []; row = c } in
      let rest = flat_map (λ d. drawn_from rows n d) (branches lasts cs) in
      count-append (is_of r.id) (drawn_from rows n b) rest ∙ ap (λ k. k + count (is_of r.id) rest) (ih (lasts ++ (length cs == 0) ∷ []) c all.0)
      ∙ ap (λ k. count (λ a. a.id == c.id) (chain (parent_row rows) n r) + k) (spread n r ih lasts cs all.1)

  -- rows of the table that pass a test
  filter-in : (s : Row → Bool) (front back : List Row) → rows ≡ front ++ back → AllByRecursion (IsIn rows) (filter s back)
  filter-in s front [] e = tt
  filter-in s front (x ∷ back) e =
      let here : IsIn rows x = subst (λ rs. row_at row_id x.id rs ≡ Some x) (sym e) (row_mid row_id front back x (ap (λ rs. rises row_id rs) (sym e) ∙ rising)) in
      go (s x) here (filter-in s (front ++ x ∷ []) back (e ∙ sym (append_assoc front (x ∷ []) back)))
    where
      go : (b : Bool) → IsIn rows x → AllByRecursion (IsIn rows) (filter s back) → AllByRecursion (IsIn rows) (cond b (x ∷ filter s back) (filter s back))
      go true here rest = (here, rest)
      go false here rest = rest

  -- a row is drawn below another as often as that stands on the chain of its parents
  grown-count : (n : ℕ) (r : Row) → IsIn rows r → (lasts : List Bool) (row : Row) → IsIn rows row
      → count (is_of r.id) (drawn_from rows n (record { lasts = lasts; row = row })) ≡ count (λ a. a.id == row.id) (chain (parent_row rows) n r)
  grown-count zero r here lasts row there = ap (λ u. cond u 1 0) (same_turned row.id r.id)
  grown-count (suc n) r here lasts row there =
      first (row.id == r.id) (r.id == row.id) (same_turned row.id r.id) _ _
      (spread n r (grown-count n r here) lasts (child_rows rows row) (filter-in (is_child row.id) [] rows refl)
      ∙ exchanged (is_child row.id) (chain (parent_row rows) n r) (chain-in n r here) ∙ followed n row r there)
    where
      first : (u v : Bool) → u ≡ v → (m k : ℕ) → m ≡ k → cond u (suc m) m ≡ cond v (suc k) k
      first u v e m k f = rw (e, f) refl

  -- so it is drawn in the tree of each top row on that chain
  spread-tops : (n : ℕ) (r : Row) → IsIn rows r → (ts : List Row) → AllByRecursion (IsIn rows) ts
      → count (is_of r.id) (flat_map (λ t. drawn_from rows n (without_lines t)) ts) ≡ sum_over (λ t. count (λ a. a.id == t.id) (chain (parent_row rows) n r)) ts
  spread-tops n r here [] all = refl
  spread-tops n r here (t ∷ ts) all =
      let rest = flat_map (λ t. drawn_from rows n (without_lines t)) ts in
      count-append (is_of r.id) (drawn_from rows n (without_lines t)) rest ∙ ap (λ k. k + count (is_of r.id) rest) (grown-count n r here [] t all.0)
      ∙ ap (λ k. count (λ a. a.id == t.id) (chain (parent_row rows) n r) + k) (spread-tops n r here ts all.1)

  -- and there is one at most, at the end
  tops-end : (n : ℕ) (r : Row) → count (is_top rows) (chain (parent_row rows) n r) ≡ cond (ends (parent_row rows) n r) 1 0
  tops-end zero r = refl
  tops-end (suc n) r = go (parent_row rows r) (λ y. tops-end n y)
    where
      go : (o : Option Row) → ((y : Row) → count (is_top rows) (chain (parent_row rows) n y) ≡ cond (ends (parent_row rows) n y) 1 0)
          → cond (is_none o) (suc (count (is_top rows) (option_map_or (λ y. chain (parent_row rows) n y) o []))) (count (is_top rows) (option_map_or (λ y. chain (parent_row rows) n y) o []))
          ≡ cond (option_map_or (λ y. ends (parent_row rows) n y) o true) 1 0
      go None ih = refl
      go (Some y) ih = ih y

  tree-count : (r : Row) → IsIn rows r → count (is_of r.id) (tree rows) ≡ cond (ends (parent_row rows) (length rows) r) 1 0
  tree-count r here =
      spread-tops (length rows) r here (filter (is_top rows) rows) (filter-in (is_top rows) [] rows refl)
      ∙ exchanged (is_top rows) (chain (parent_row rows) (length rows) r) (chain-in (length rows) r here) ∙ tops-end (length rows) r

  pub tops : (r : Row) → IsIn rows r → is_drawn (tree rows) r.id ≡ ends (parent_row rows) (length rows) r
  tops r here = any-is (is_of r.id) (tree rows) (ends (parent_row rows) (length rows) r) (tree-count r here)

  strays-count : (r : Row) → IsIn rows r → count (is_of r.id) (strays rows) ≡ cond (not (is_drawn (tree rows) r.id)) 1 0
  strays-count r here =
      count-map (is_of r.id) without_lines (filter (λ x. not (is_drawn (tree rows) x.id)) rows)
      ∙ count-filter (λ x. x.id == r.id) (λ x. not (is_drawn (tree rows) x.id)) rows ∙ count-one (λ x. not (is_drawn (tree rows) x.id)) r here

  pub once : (r : Row) → IsIn rows r → count (is_of r.id) (tree rows) + count (is_of r.id) (strays rows) ≡ 1
  once r here =
      let drawn = is_drawn (tree rows) r.id in
      ap (λ k. k + count (is_of r.id) (strays rows)) (tree-count r here ∙ ap (λ b. cond b 1 0) (sym (tops r here))) ∙ ap (λ k. cond drawn 1 0 + k) (strays-count r here) ∙ either drawn
    where
      either : (b : Bool) → cond b 1 0 + cond (not b) 1 0 ≡ 1
      either true = refl
      either false = refl

  -- what is drawn below a row of the table is of the table
  all-append : (xs ys : List BranchView) → AllByRecursion (λ b. IsIn rows b.row) xs → AllByRecursion (λ b. IsIn rows b.row) ys → AllByRecursion (λ b. IsIn rows b.row) (xs ++ ys)
  all-append [] ys p q = q
  all-append (x ∷ xs) ys p q = (p.0, all-append xs ys p.1 q)

  below-in : (n : ℕ) → ((lasts : List Bool) (c : Row) → IsIn rows c → AllByRecursion (λ b. IsIn rows b.row) (drawn_from rows n (record { lasts = lasts; row = c })))
      → (lasts : List Bool) (cs : List Row) → AllByRecursion (IsIn rows) cs → AllByRecursion (λ b. IsIn rows b.row) (flat_map (λ c. drawn_from rows n c) (branches lasts cs))
  below-in n ih lasts [] all = tt
  below-in n ih lasts (c ∷ cs) all =
      all-append (drawn_from rows n (record { lasts = lasts ++ (length cs == 0) ∷ []; row = c })) (flat_map (λ c. drawn_from rows n c) (branches lasts cs)) (ih (lasts ++ (length cs == 0) ∷ []) c all.0) (below-in n ih lasts cs all.1)

  grown-in : (n : ℕ) (lasts : List Bool) (row : Row) → IsIn rows row → AllByRecursion (λ b. IsIn rows b.row) (drawn_from rows n (record { lasts = lasts; row = row }))
  grown-in zero lasts row there = (there, tt)
  grown-in (suc n) lasts row there = (there, below-in n (grown-in n) lasts (child_rows rows row) (filter-in (is_child row.id) [] rows refl))

  tops-in : (ts : List Row) → AllByRecursion (IsIn rows) ts → AllByRecursion (λ b. IsIn rows b.row) (flat_map (λ t. drawn_from rows (length rows) (without_lines t)) ts)
  tops-in [] all = tt
  tops-in (t ∷ ts) all = all-append (drawn_from rows (length rows) (without_lines t)) (flat_map (λ t. drawn_from rows (length rows) (without_lines t)) ts) (grown-in (length rows) [] t all.0) (tops-in ts all.1)

  alone-in : (xs : List Row) → AllByRecursion (IsIn rows) xs → AllByRecursion (λ b. IsIn rows b.row) (map without_lines xs)
  alone-in [] all = tt
  alone-in (x ∷ xs) all = (all.0, alone-in xs all.1)

  pub only : AllByRecursion (λ b. IsIn rows b.row) (tree rows ++ strays rows)
  only =
      all-append (tree rows) (strays rows) (tops-in (filter (is_top rows) rows) (filter-in (is_top rows) [] rows refl))
      (alone-in (filter (λ x. not (is_drawn (tree rows) x.id)) rows) (filter-in (λ x. not (is_drawn (tree rows) x.id)) [] rows refl))
