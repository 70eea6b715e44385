-- Each row of a tree stands below its parent's.
use Rattle.std.proofs.Common.{◌≡◌, ℕ, zero, suc, Bool, true, false, cond, ◌&&◌, ◌||◌, ◌==◌, eqb-true, List, [], ◌∷◌, ◌++◌, length, length-append, refl, sym, ap, ◌∙◌, arith}
use Rattle.std.specs.Prelude.{not}
use Rattle.std.specs.List.{list_any, filter, flat_map, AllByRecursion}
use Rattle.std.proofs.lemmas.Bool.{or_left, or_right}
use Rattle.std.proofs.lemmas.Bool.Decides.{nat_tests}
use Rattle.mt_skel.proofs.MiddleLaws.{and-true, and_first, and_second}
use Rattle.mt_info.specs.declared.row.Row.{Row}
use Rattle.mt_render.specs.Forest.{BranchView, without_lines, is_top, is_child, child_rows, branches, drawn_from, tree}
use Rattle.mt_render.specs.Laws.{is_parent_branch}

module _ (rows : List Row) where
  -- rows are top rows or stand below their parents', where these were passed before
  abbrev placed : List BranchView → List BranchView → Bool
  placed seen [] = true
  placed seen (b ∷ bs) = (is_top rows b.row || list_any (λ p. is_parent_branch p b) seen) && placed (b ∷ seen) bs

  append-placed : (xs ys seen : List BranchView) → placed seen xs ≡ true
      → ((more : List BranchView) → ((b : BranchView) → list_any (λ p. is_parent_branch p b) seen ≡ true → list_any (λ p. is_parent_branch p b) more ≡ true) → placed more ys ≡ true)
      → placed seen (xs ++ ys) ≡ true
  append-placed [] ys seen e after = after seen (λ b h. h)
  append-placed (x ∷ xs) ys seen e after =
      and-true (is_top rows x.row || list_any (λ p. is_parent_branch p x) seen) (placed (x ∷ seen) (xs ++ ys))
      (and_first (is_top rows x.row || list_any (λ p. is_parent_branch p x) seen) (placed (x ∷ seen) xs) e)
      (append-placed xs ys (x ∷ seen) (and_second (is_top rows x.row || list_any (λ p. is_parent_branch p x) seen) (placed (x ∷ seen) xs) e)
      (λ more has. after more (λ b h. has b (or_right (is_parent_branch x b) (list_any (λ p. is_parent_branch p b) seen) h))))

  below-placed : (n : ℕ) → ((b : BranchView) (seen : List BranchView) → (is_top rows b.row || list_any (λ p. is_parent_branch p b) seen) ≡ true → placed seen (drawn_from rows n b) ≡ true)
      → (b : BranchView) (cs : List Row) → AllByRecursion (λ (c : Row). c.parent ≡ b.row.id) cs → (seen : List BranchView)
      → ((c : BranchView) → is_parent_branch b c ≡ true → list_any (λ p. is_parent_branch p c) seen ≡ true) → placed seen (flat_map (λ c. drawn_from rows n c) (branches b.lasts cs)) ≡ true
  below-placed n ih b [] all seen has = refl
  below-placed n ih b (c ∷ cs) all seen has =
      let k : BranchView = record { lasts = b.lasts ++ (length cs == 0) ∷ []; row = c } in
      let own : (b.row.id == c.parent) ≡ true = same b.row.id c.parent all.0 in
      let lower : (length (b.lasts ++ (length cs == 0) ∷ []) == suc (length b.lasts)) ≡ true = longer b.lasts (length cs == 0) in
      let above : is_parent_branch b k ≡ true = and-true (b.row.id == c.parent) (length (b.lasts ++ (length cs == 0) ∷ []) == suc (length b.lasts)) own lower in
      append-placed (drawn_from rows n k) (flat_map (λ c. drawn_from rows n c) (branches b.lasts cs)) seen
      (ih k seen (or_right (is_top rows c) (list_any (λ p. is_parent_branch p k) seen) (has k above)))
      (λ more wider. below-placed n ih b cs all.1 more (λ d h. wider d (has d h)))
    where
      same : (i j : ℕ) → j ≡ i → (i == j) ≡ true
      same i j e = grind (arith, nat_tests)

      longer : (xs : List Bool) (x : Bool) → (length (xs ++ x ∷ []) == suc (length xs)) ≡ true
      longer xs x =
          let e : length (xs ++ x ∷ []) ≡ suc (length xs) = length-append xs (x ∷ []) ∙ omega arith in
          grind (arith, nat_tests)

  children-of : (i : ℕ) (rs : List Row) → AllByRecursion (λ (c : Row). c.parent ≡ i) (filter (is_child i) rs)
  children-of i [] = tt
  children-of i (r ∷ rs) = go (r.parent == i) refl (not (r.id == i)) (children-of i rs)
    where
      go : (u : Bool) → (r.parent == i) ≡ u → (v : Bool) → AllByRecursion (λ (c : Row). c.parent ≡ i) (filter (is_child i) rs)
          → AllByRecursion (λ (c : Row). c.parent ≡ i) (cond (u && v) (r ∷ filter (is_child i) rs) (filter (is_child i) rs))
      go true e true rest = (eqb-true r.parent i e, rest)
      go true e false rest = rest
      go false e v rest = rest

  grown-placed : (n : ℕ) (b : BranchView) (seen : List BranchView) → (is_top rows b.row || list_any (λ p. is_parent_branch p b) seen) ≡ true → placed seen (drawn_from rows n b) ≡ true
  grown-placed zero b seen h = and-true (is_top rows b.row || list_any (λ p. is_parent_branch p b) seen) true h refl
  grown-placed (suc n) b seen h =
      and-true (is_top rows b.row || list_any (λ p. is_parent_branch p b) seen) (placed (b ∷ seen) (flat_map (λ c. drawn_from rows n c) (branches b.lasts (child_rows rows b.row)))) h
      (below-placed n (grown-placed n) b (child_rows rows b.row) (children-of b.row.id rows) (b ∷ seen) (λ c a. or_left (is_parent_branch b c) (list_any (λ p. is_parent_branch p c) seen) a))

  tops-placed : (n : ℕ) (rs : List Row) (seen : List BranchView) → placed seen (flat_map (λ t. drawn_from rows n (without_lines t)) (filter (is_top rows) rs)) ≡ true
  tops-placed n [] seen = refl
  tops-placed n (r ∷ rs) seen = go (is_top rows r) refl (tops-placed n rs)
    where
      go : (u : Bool) → is_top rows r ≡ u → ((more : List BranchView) → placed more (flat_map (λ t. drawn_from rows n (without_lines t)) (filter (is_top rows) rs)) ≡ true) → placed seen (flat_map (λ t. drawn_from rows n (without_lines t)) (cond u (r ∷ filter (is_top rows) rs) (filter (is_top rows) rs))) ≡ true
      go true e ih =
          append-placed (drawn_from rows n (without_lines r)) (flat_map (λ t. drawn_from rows n (without_lines t)) (filter (is_top rows) rs)) seen
          (grown-placed n (without_lines r) seen (or_left (is_top rows r) (list_any (λ p. is_parent_branch p (without_lines r)) seen) e)) (λ more has. ih more)
      go false e ih = ih seen

  above-in : (front : List BranchView) (b : BranchView) (back seen : List BranchView) → placed seen (front ++ b ∷ back) ≡ true → is_top rows b.row ≡ false
      → (list_any (λ p. is_parent_branch p b) seen || list_any (λ p. is_parent_branch p b) front) ≡ true
  above-in [] b back seen e low =
      or_left (list_any (λ p. is_parent_branch p b) seen) false
      (ap (λ u. u || list_any (λ p. is_parent_branch p b) seen) (sym low) ∙ and_first (is_top rows b.row || list_any (λ p. is_parent_branch p b) seen) (placed (b ∷ seen) back) e)
  above-in (x ∷ xs) b back seen e low =
      moved (is_parent_branch x b) (list_any (λ p. is_parent_branch p b) seen) (list_any (λ p. is_parent_branch p b) xs)
      (above-in xs b back (x ∷ seen) (and_second (is_top rows x.row || list_any (λ p. is_parent_branch p x) seen) (placed (x ∷ seen) (xs ++ b ∷ back)) e) low)
    where
      moved : (a s f : Bool) → ((a || s) || f) ≡ true → (s || (a || f)) ≡ true
      moved true true f h = refl
      moved true false f h = refl
      moved false true f h = refl
      moved false false f h = h

  pub stands_below : (front : List BranchView) (b : BranchView) (back : List BranchView) → tree rows ≡ front ++ b ∷ back → is_top rows b.row ≡ false → list_any (λ p. is_parent_branch p b) front ≡ true
  stands_below front b back e low = above-in front b back [] (ap (λ bs. placed [] bs) (sym e) ∙ tops-placed (length rows) rows []) low
