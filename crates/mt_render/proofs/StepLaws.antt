-- The way through a tree, and the rows of the tree that it leads to.
use Rattle.std.proofs.Common.{◌≡◌, ℕ, zero, suc, ◌+◌, ◌<◌, ◌≤◌, Bool, true, false, not, ◌||◌, List, [], ◌∷◌, ◌++◌, ◌==◌, map, take, drop, length, cond, refl, sym, ap, ◌∙◌, append_assoc, append-nil, length-append, arith}
use Rattle.std.specs.List.{flat_map, filter}
use Rattle.std.proofs.lemmas.Bool.Decides.{nat_tests}
use Rattle.std.proofs.lemmas.List.{take_all, drop_all, take-append-le, take-take}
use Rattle.mt_info.specs.declared.row.Row.{Row}
use Rattle.mt_render.specs.Forest.{BranchView, without_lines, is_top, child_rows, branches, drawn_from, tree, is_drawn, strays}
use Rattle.mt_render.specs.Objects.{flat_node, is_deep}
use Rattle.mt_render.specs.Steps.{StepView, last_flag, step_of, top_step, steps_at, steps_from, led, led_at, unrolled, has_step, stands_deep}

last_behind : (xs : List Bool) (x : Bool) → last_flag (xs ++ x ∷ []) ≡ x
last_behind [] x = refl
last_behind (y ∷ []) x = refl
last_behind (y ∷ z ∷ zs) x = last_behind (z ∷ zs) x

one_longer : (xs : List Bool) (x : Bool) → length (xs ++ x ∷ []) ≡ length xs + 1
one_longer xs x = length-append xs (x ∷ []) ∙ omega arith

-- the children of a row are the same steps as rows of the tree
below_steps : (lasts : List Bool) (cs : List Row) → map step_of (branches lasts cs) ≡ steps_at (length lasts + 1) cs
below_steps lasts [] = refl
below_steps lasts (c ∷ cs) =
    let l = length cs == 0 in
    (λ i. record { depth = one_longer lasts l i; is_last = last_behind lasts l i; row = c } ∷ below_steps lasts cs i)

map-append : (xs ys : List BranchView) → map step_of (xs ++ ys) ≡ map step_of xs ++ map step_of ys
map-append [] ys = refl
map-append (x ∷ xs) ys = ap (λ ss. step_of x ∷ ss) (map-append xs ys)

-- rows and all below them, where each is the same steps
each_steps : (f : BranchView → List BranchView) (g : StepView → List StepView) → ((b : BranchView) → map step_of (f b) ≡ g (step_of b)) → (bs : List BranchView) → map step_of (flat_map f bs) ≡ flat_map g (map step_of bs)
each_steps f g same [] = refl
each_steps f g same (b ∷ bs) = map-append (f b) (flat_map f bs) ∙ (λ i. same b i ++ each_steps f g same bs i)

module _ (rows : List Row) where
  -- and so is all below them
  pub from_steps : (n : ℕ) (b : BranchView) → map step_of (drawn_from rows n b) ≡ steps_from rows n (step_of b)
  from_steps zero b = refl
  from_steps (suc n) b =
      ap (λ ss. step_of b ∷ ss)
      (each_steps (λ c. drawn_from rows n c) (λ s. steps_from rows n s) (λ c. from_steps n c) (branches b.lasts (child_rows rows b.row))
      ∙ ap (λ ss. flat_map (λ c. steps_from rows n c) ss) (below_steps b.lasts (child_rows rows b.row)))

  -- the tree is the steps of its top rows
  pub tree_steps : (n : ℕ) (ts : List Row) → flat_map (λ r. steps_from rows n (top_step r)) ts ≡ map step_of (flat_map (λ r. drawn_from rows n (without_lines r)) ts)
  tree_steps n [] = refl
  tree_steps n (t ∷ ts) =
      (λ i. sym (from_steps n (without_lines t)) i ++ tree_steps n ts i)
      ∙ sym (map-append (drawn_from rows n (without_lines t)) (flat_map (λ r. drawn_from rows n (without_lines r)) ts))

-- lines that lead to a row lead on from others that begin as those of its parent
follows : (front lasts : List Bool) (l : Bool) → take (length front) lasts ≡ front → led_at (length (front ++ l ∷ [])) (last_flag (front ++ l ∷ [])) lasts ≡ front ++ l ∷ []
follows front lasts l e =
    (λ i. led_at (one front l i) (last_behind front l i) lasts) ∙ ap (λ xs. xs ++ l ∷ []) e
  where
    one : (xs : List Bool) (x : Bool) → length (xs ++ x ∷ []) ≡ suc (length xs)
    one xs x = length-append xs (x ∷ []) ∙ omega arith

-- what begins as a longer list begins as its front
shorter : (front lasts : List Bool) (l : Bool) → take (length (front ++ l ∷ [])) lasts ≡ front ++ l ∷ [] → take (length front) lasts ≡ front
shorter front lasts l e =
    let more : length front ≤ length (front ++ l ∷ []) = omega (arith, one_longer front l) in
    sym (take-take (length front) (length (front ++ l ∷ [])) lasts more) ∙ ap (λ xs. take (length front) xs) e ∙ take-append-le (length front) front (l ∷ []) (omega arith)
    ∙ take_all (length front) front (omega arith)

module _ (rows : List Row) where
  abbrev Goes : ℕ → Type 0
  Goes n =
      (b : BranchView) (lasts : List Bool) (rest : List StepView) (out : List BranchView) → led lasts (step_of b) ≡ b.lasts
      → ((more : List Bool) → take (length b.lasts) more ≡ b.lasts → unrolled more rest ≡ out) → unrolled lasts (map step_of (drawn_from rows n b) ++ rest) ≡ drawn_from rows n b ++ out

  -- children follow their parent
  below_unrolled : (n : ℕ) → Goes n → (front : List Bool) (cs : List Row) (lasts : List Bool) (rest : List StepView) (out : List BranchView) → take (length front) lasts ≡ front
      → ((more : List Bool) → take (length front) more ≡ front → unrolled more rest ≡ out)
      → unrolled lasts (map step_of (flat_map (λ c. drawn_from rows n c) (branches front cs)) ++ rest) ≡ flat_map (λ c. drawn_from rows n c) (branches front cs) ++ out
  below_unrolled n go front [] lasts rest out e k = k lasts e
  below_unrolled n go front (c ∷ cs) lasts rest out e k =
      let l = length cs == 0 in
      let b : BranchView = record { lasts = front ++ l ∷ []; row = c } in
      let here = drawn_from rows n b in
      let later = flat_map (λ d. drawn_from rows n d) (branches front cs) in
      ap (λ ss. unrolled lasts (ss ++ rest)) (map-append here later)
      ∙ ap (λ ss. unrolled lasts ss) (append_assoc (map step_of here) (map step_of later) rest)
      ∙ go b lasts (map step_of later ++ rest) (later ++ out) (follows front lasts l e) (λ more f. below_unrolled n go front cs more rest out (shorter front more l f) k)
      ∙ sym (append_assoc here later out)

  from_unrolled : (n : ℕ) → Goes n
  from_unrolled zero b lasts rest out e k =
      (λ i. record { lasts = e i; row = b.row } ∷ unrolled (e i) rest) ∙ ap (λ bs. b ∷ bs) (k b.lasts (take_all (length b.lasts) b.lasts (omega arith)))
  from_unrolled (suc n) b lasts rest out e k =
      (λ i. record { lasts = e i; row = b.row } ∷ unrolled (e i) (map step_of (flat_map (λ c. drawn_from rows n c) (branches b.lasts (child_rows rows b.row))) ++ rest))
      ∙ ap (λ bs. b ∷ bs) (below_unrolled n (from_unrolled n) b.lasts (child_rows rows b.row) b.lasts rest out (take_all (length b.lasts) b.lasts (omega arith)) k)

  tops_unrolled : (n : ℕ) (ts : List Row) (lasts : List Bool) → unrolled lasts (map step_of (flat_map (λ t. drawn_from rows n (without_lines t)) ts)) ≡ flat_map (λ t. drawn_from rows n (without_lines t)) ts
  tops_unrolled n [] lasts = refl
  tops_unrolled n (t ∷ ts) lasts =
      let here = drawn_from rows n (without_lines t) in
      let later = flat_map (λ r. drawn_from rows n (without_lines r)) ts in
      ap (λ ss. unrolled lasts ss) (map-append here later) ∙ from_unrolled n (without_lines t) lasts (map step_of later) later refl (λ more f. tops_unrolled n ts more)

-- the steps of a tree lead to its rows
pub tree_unrolled : (rows : List Row) → unrolled [] (map step_of (tree rows)) ≡ tree rows
tree_unrolled rows = tops_unrolled rows (length rows) (filter (is_top rows) rows) []

-- and those of rows in no tree to them
pub alone_unrolled : (rs : List Row) (lasts : List Bool) → unrolled lasts (map step_of (map without_lines rs)) ≡ map without_lines rs
alone_unrolled [] lasts = refl
alone_unrolled (r ∷ rs) lasts = ap (λ bs. without_lines r ∷ bs) (alone_unrolled rs [])

-- a mount has a step where it is drawn
pub has_same : (i : ℕ) (bs : List BranchView) → has_step (map step_of bs) i ≡ is_drawn bs i
has_same i [] = refl
has_same i (b ∷ bs) = ap (λ u. (b.row.id == i) || u) (has_same i bs)

-- rows in no tree as steps
pub stray_steps : (rows : List Row) (drawn : List StepView) → drawn ≡ map step_of (tree rows) → map top_step (filter (λ r. not (has_step drawn r.id)) rows) ≡ map step_of (strays rows)
stray_steps rows drawn e =
    (λ i. map top_step (filter (λ r. not ((ap (λ ss. has_step ss r.id) e ∙ has_same r.id (tree rows)) i)) rows)) ∙ tops (filter (λ r. not (is_drawn (tree rows) r.id)) rows)
  where
    tops : (rs : List Row) → map top_step rs ≡ map step_of (map without_lines rs)
    tops [] = refl
    tops (r ∷ rs) = ap (λ ss. top_step r ∷ ss) (tops rs)

-- what stands too deep, as steps and as rows of the tree
pub deep_steps : (bs : List BranchView) → map (λ (s : StepView). flat_node s.row) (filter stands_deep (map step_of bs)) ≡ map (λ (b : BranchView). flat_node b.row) (filter is_deep bs)
deep_steps [] = refl
deep_steps (b ∷ bs) = go (is_deep b) (deep_steps bs)
  where
    go : (u : Bool) → map (λ (s : StepView). flat_node s.row) (filter stands_deep (map step_of bs)) ≡ map (λ (b : BranchView). flat_node b.row) (filter is_deep bs)
        → map (λ (s : StepView). flat_node s.row) (cond u (step_of b ∷ filter stands_deep (map step_of bs)) (filter stands_deep (map step_of bs))) ≡ map (λ (b : BranchView). flat_node b.row) (cond u (b ∷ filter is_deep bs) (filter is_deep bs))
    go true ih = ap (λ ds. flat_node b.row ∷ ds) ih
    go false ih = ih

pub stray_nodes : (bs : List BranchView) → map (λ (s : StepView). flat_node s.row) (map step_of bs) ≡ map (λ (b : BranchView). flat_node b.row) bs
stray_nodes [] = refl
stray_nodes (b ∷ bs) = ap (λ ds. flat_node b.row ∷ ds) (stray_nodes bs)

pub stray_unrolled : (rows : List Row) → unrolled [] (map step_of (strays rows)) ≡ strays rows
stray_unrolled rows = alone_unrolled (filter (λ r. not (is_drawn (tree rows) r.id)) rows) []

-- what is drawn once all rows were looked at
pub tree_end : (rows table : List Row) (i : ℕ) (drawn : List StepView) → rows ≡ table → length rows ≤ i
    → drawn ++ flat_map (λ r. steps_from table (length table) (top_step r)) (filter (is_top rows) (drop i rows)) ≡ flat_map (λ r. steps_from table (length table) (top_step r)) (filter (is_top rows) rows)
    → drawn ≡ map step_of (tree table)
tree_end rows table i drawn same end all =
    sym (append-nil drawn) ∙ ap (λ rs. drawn ++ flat_map (λ r. steps_from table (length table) (top_step r)) (filter (is_top rows) rs)) (sym (drop_all i rows end)) ∙ all
    ∙ ap (λ rs. flat_map (λ r. steps_from table (length table) (top_step r)) (filter (is_top rs) rs)) same ∙ tree_steps table (length table) (filter (is_top table) table)

pub strays_end : (rows table : List Row) (i : ℕ) (drawn others : List StepView) → rows ≡ table → length rows ≤ i
    → others ++ map top_step (filter (λ r. not (has_step drawn r.id)) (drop i rows)) ≡ map top_step (filter (λ r. not (has_step drawn r.id)) rows) → drawn ≡ map step_of (tree table)
    → others ≡ map step_of (strays table)
strays_end rows table i drawn others same end all e =
    sym (append-nil others) ∙ ap (λ rs. others ++ map top_step (filter (λ r. not (has_step drawn r.id)) rs)) (sym (drop_all i rows end)) ∙ all
    ∙ ap (λ rs. map top_step (filter (λ r. not (has_step drawn r.id)) rs)) same ∙ stray_steps table drawn e
