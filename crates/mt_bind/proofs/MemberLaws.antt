-- The source trees of binds and moves as lists of IDs, how many copies a bind makes at least, and whether a mount is bound with a
-- directory, step by step up to the top.
use Rattle.std.proofs.Common.{◌≡◌, ℕ, ◌+◌, ◌≤◌, Bool, true, false, cond, ◌==◌, eqb-true, eq-eqb, List, [], ◌∷◌, map, length, Option, Some, refl, sym, ap, ◌∙◌, ◌++◌, ◌<◌, drop, get_or, append_assoc, inl, inr, arith, length-append, ◌≢◌, zero, suc, ◌&&◌, nat_eq, None}
use Rattle.std.specs.Prelude.{unwrap_or, is_some}
use Rattle.std.specs.List.{filter, flat_map, list_any, list_all, last_or}
use Rattle.std.specs.Option.{option_map_or}
use Rattle.std.proofs.lemmas.Bool.Decides.{nat_tests}
use Rattle.std.proofs.lemmas.List.{drop_more, length-map}
use Rattle.std.specs.Map.{lookup}
use Rattle.std.specs.declared.hash.FoldHasher.{FoldHasher}
use Rattle.std.specs.declared.hash.BuildHasherDefault.{BuildHasherDefault}
use Rattle.indexmap.specs.IndexMap.{IndexMap, get}
use Rattle.mt_skel.specs.Keyed.{rises, among}
use Rattle.mt_skel.proofs.KeyedLaws.{row_at-key, row_at-filter}
use Rattle.mt_skel.proofs.MiddleLaws.{and_first}
use Rattle.mt_skel.proofs.ElementLaws.{In, in_filter, in_row}
use Rattle.mt_skel.specs.Chain.{chain, ends}
use Rattle.mt_mounts.specs.declared.mount.Mount.{Mount}
use Rattle.mt_mounts.specs.declared.mount.Place.{Place}
use Rattle.mt_mounts.specs.Forest.{id_of, mount_at, is_below, subtree, parent}
use Rattle.mt_mounts.proofs.Walks.{below_within, below_here, below_step}
use Rattle.mt_propagate.specs.World.{WorldView, state_of, root_dir}
use Rattle.mt_propagate.specs.Named.{unknown, is_mount_root}
use Rattle.mt_propagate.specs.Limits.{mounts_at_most, too_many_mounts}
use Rattle.mt_propagate.specs.Copies.{Source, MountCopy, copies_at, new_copies}
use Rattle.mt_propagate.specs.Receivers.{targets}
use Rattle.mt_propagate.specs.Sound.{IsSource}
use Rattle.mt_propagate.specs.Plans.{member_of, copied_source}
use Rattle.mt_propagate.proofs.RowLaws.{keys-filter, part-filtered}
use Rattle.mt_propagate.proofs.BelowSourceLaws.{below-source}
use Rattle.mt_propagate.specs.WellFormed.{IsWellFormed}
use Rattle.mt_bind.specs.Sources.{top_at, alone, tree_within, is_bound_along, tree_of, leads_within, is_bindable}
use Rattle.mt_bind.specs.Judged.{IsJudged}
use Rattle.mt_bind.proofs.TreeOfLaws.{way, more, way_here, way_step, below_parent, path_step}

-- an ID is among those of mounts where one of them has it
among-rows : (ms : List Mount) (i : ℕ) → among (map id_of ms) i ≡ is_some (mount_at ms i)
among-rows [] i = refl
among-rows (m ∷ ms) i = grind (arith, nat_tests, among-rows ms i)

-- and among those of mounts that pass a test where that one passes it
pub among_passing : (t : Mount → Bool) (ms : List Mount) → rises id_of ms ≡ true → (i : ℕ) → among (map id_of (filter t ms)) i ≡ option_map_or t (mount_at ms i) false
among_passing t ms rising i = grind (arith, among-rows (filter t ms) i, row_at-filter id_of t i ms rising)

-- the elements that pass, one element further
module _ (t : ℕ → Bool) (ks : List ℕ) (i x : ℕ) (there : i < length ks) (out more all : List ℕ) (before : out ++ filter t (drop i ks) ≡ all) where
  pub passes : t (get_or ks i x) ≡ true → more ≡ out ++ get_or ks i x ∷ [] → more ++ filter t (drop (i + 1) ks) ≡ all
  passes e is = rw (is, append_assoc out (get_or ks i x ∷ []) (filter t (drop (i + 1) ks))) (grind (arith, drop_more ks i x there))

  pub fails : t (get_or ks i x) ≡ false → more ≡ out → more ++ filter t (drop (i + 1) ks) ≡ all
  fails e is = grind (arith, drop_more ks i x there)

module _ (w : WorldView) (p : Place) where
  -- what is bound along stands in the tree of the directory's own mount
  pub bound_below : filter (is_bound_along w p) (subtree w.forest p.mount) ≡ map id_of (filter (λ m. is_bound_along w p m.id) w.forest)
  bound_below =
      part-filtered (is_bound_along w p) (is_below w.forest p.mount) (map id_of w.forest) (λ i b. and_first _ _ (and_first _ _ b))
      ∙ sym (keys-filter id_of (is_bound_along w p) w.forest)

  abbrev cut : Mount → Mount
  cut m = cond (m.id == p.mount) (top_at w p) m

  members : (ms : List Mount) → ((m : Mount) → In m ms → mount_at w.forest m.id ≡ Some m) → map (member_of w p.mount p.dir) (map id_of ms) ≡ map cut ms
  members [] known = refl
  members (m ∷ ms) known = λ i. cond (m.id == p.mount) (top_at w p) (unwrap_or (known m (inl refl) i) unknown) ∷ members ms (λ x there. known x (inr there)) i

  -- a tree within a directory, by its mounts' IDs
  pub tree_is : rises id_of w.forest ≡ true → (ids : List ℕ) → ids ≡ map id_of (filter (λ m. is_bound_along w p m.id) w.forest) → copied_source w p.mount p.dir ids false ≡ tree_within w p
  tree_is rising ids e =
      let all = filter (λ m. is_bound_along w p m.id) w.forest in
      ap (λ (l : List ℕ). copied_source w p.mount p.dir l false) e
      ∙ ap (λ (ms : List Mount). let s : Source = record { mounts = ms; top = top_at w p; moved = false } in s) (members all (λ m there. in_row id_of w.forest m rising (in_filter (λ m. is_bound_along w p m.id) m w.forest there).0))

  -- one mount alone, by its ID
  pub alone_is : (ids : List ℕ) → ids ≡ p.mount ∷ [] → copied_source w p.mount p.dir ids false ≡ alone w p
  alone_is ids e = rw (e, eq-eqb p.mount p.mount refl) refl

  -- either, by the IDs of its mounts
  pub either_is : rises id_of w.forest ≡ true → (recursive : Bool) (ids : List ℕ) → ids ≡ cond recursive (map id_of (filter (λ m. is_bound_along w p m.id) w.forest)) (p.mount ∷ [])
      → copied_source w p.mount p.dir ids false ≡ cond recursive (tree_within w p) (alone w p)
  either_is rising true ids e = tree_is rising ids e
  either_is rising false ids e = alone_is ids e

  -- neither moves
  pub stays : (recursive : Bool) → (cond recursive (tree_within w p) (alone w p)).moved ≡ false
  stays recursive = grind arith

-- copies that are made at the place itself
module _ (w : WorldView) (src : Source) (dest : Place) (still : src.moved ≡ false) where
  abbrev copy_to : ℕ → Mount → MountCopy
  copy_to t m = record { target = t; source = m.id }

  copies_many : length src.mounts ≤ length (new_copies w src dest)
  copies_many =
      let later = flat_map (λ t. map (copy_to t) src.mounts) (targets w dest) in
      let all = ap (λ b. length (copies_at src.mounts (cond b (targets w dest) (dest.mount ∷ targets w dest)))) still in
      let parts = length-append (map (copy_to dest.mount) src.mounts) later in
      let own = length-map src.mounts (copy_to dest.mount) in
      omega (arith, all, parts, own)

  some_there : (ms : List Mount) (i : ℕ) (m : Mount) → mount_at ms i ≡ Some m → 1 ≤ length ms
  some_there [] i m e = absurd (cc)
  some_there (x ∷ ms) i m e = omega arith

  -- where no mount more may come, there are too many
  pub full : IsSource w src dest → mounts_at_most w ≤ length w.forest → too_many_mounts w (length (new_copies w src dest)) ≡ true
  full s most = let some = some_there src.mounts src.top.id src.top s.tree.top_there in let many = copies_many in grind (arith, nat_tests)

-- a test of IDs is one of their mounts
pub any_ids : (t : ℕ → Bool) (ms : List Mount) → list_any t (map id_of ms) ≡ list_any (λ (m : Mount). t m.id) ms
any_ids t [] = refl
any_ids t (m ∷ ms) = rw (any_ids t ms) refl

pub unbindable_ids : (w : WorldView) (i : ℕ) (ids : List ℕ) → ids ≡ subtree w.forest i
    → list_any (λ k. (state_of w k).unbindable) ids ≡ list_any (λ (m : Mount). (state_of w m.id).unbindable) (tree_of w i).mounts
unbindable_ids w i ids e =
    ap (list_any (λ k. (state_of w k).unbindable)) (e ∙ sym (keys-filter id_of (is_below w.forest i) w.forest))
    ∙ any_ids (λ k. (state_of w k).unbindable) (filter (λ (m : Mount). is_below w.forest i m.id) w.forest)

-- a mount that is there is in a tree if its ID is among those of the tree
pub below_among : (w : WorldView) → rises id_of w.forest ≡ true → (i j : ℕ) (m : Mount) (ids : List ℕ) → ids ≡ subtree w.forest i → mount_at w.forest j ≡ Some m → among ids j ≡ is_below w.forest i j
below_among w rising i j m ids e there =
    rw (e, sym (keys-filter id_of (is_below w.forest i) w.forest), among_passing (λ (m : Mount). is_below w.forest i m.id) w.forest rising j, there, row_at-key id_of j w.forest m there) refl

-- the tree that moves, by its mounts' IDs
pub moved_tree : (w : WorldView) (s : Place) → rises id_of w.forest ≡ true → is_mount_root w s ≡ true → (ids : List ℕ) → ids ≡ subtree w.forest s.mount → copied_source w s.mount s.dir ids true ≡ tree_of w s.mount
moved_tree w s rising named ids e = below-source w rising s.mount s.dir (let is = eqb-true s.dir (root_dir w s.mount) named in grind arith) ids e

-- the way from a mount up to the top, step by step
module _ (w : WorldView) (p : Place) where
  -- what is asked of a way up to the top: no mount of it is unbindable, and the last one stands within the directory, or if there is none the mount passed last
  abbrev asked : Bool → Option ℕ → List ℕ → Bool
  asked leads passed ks = leads && list_all (is_bindable w) ks && leads_within w p.dir (last_or passed ks)

  -- whether this many steps from j lead to the top on such a way
  abbrev pub taken : ℕ → Option ℕ → ℕ → Bool
  taken n passed j = asked (below_within w.forest p.mount n j) passed (way w p.mount n j)

  way_more : (n j : ℕ) → j ≢ p.mount → (rest : List ℕ) × (way w p.mount n j ≡ j ∷ rest)
  way_more zero j e = (_, more w p.mount j [] e)
  way_more (suc n) j e = (_, more w p.mount j (option_map_or (λ y. chain (parent w.forest) n y) (parent w.forest j) []) e)

  -- at the top it is decided
  pub taken_here : (n : ℕ) (passed : Option ℕ) (j : ℕ) → j ≡ p.mount → taken n passed j ≡ leads_within w p.dir passed
  taken_here n passed j e = rw (below_here w.forest p.mount n j e, way_here w p.mount n j e) refl

  -- no mount is taken along with an unbindable one below the top
  pub taken_unbindable : (n : ℕ) (passed : Option ℕ) (j : ℕ) → j ≢ p.mount → (state_of w j).unbindable ≡ true → taken n passed j ≡ false
  taken_unbindable n passed j ne e = let rest = way_more n j ne in grind (arith, rest.1, e)

  -- elsewhere the parent decides
  pub taken_step : (n : ℕ) (passed : Option ℕ) (j q : ℕ) → j ≢ p.mount → (state_of w j).unbindable ≡ false → parent w.forest j ≡ Some q → taken (suc n) passed j ≡ taken n (Some j) q
  taken_step n passed j q ne e up = rw (below_step w.forest p.mount n j q ne up, way_step w p.mount n j q ne up, e) refl

  -- more steps say nothing where the way ends, nor does the directory that was passed last off the top
  longer_chain : (n k j : ℕ) → n ≤ k → ends (parent w.forest) n j ≡ true → chain (parent w.forest) k j ≡ chain (parent w.forest) n j
  longer_chain zero zero j l e = refl
  longer_chain zero (suc k) j l e = grind arith
  longer_chain (suc n) zero j l e = absurd (omega (arith, l))
  longer_chain (suc n) (suc k) j l e = grind (arith, λ (y : ℕ). longer_chain n k y (omega (arith, l)))

  pub taken_before : (n : ℕ) (passed : Option ℕ) (j : ℕ) → j ≢ p.mount → n ≤ length w.forest → ends (parent w.forest) n j ≡ true → taken n passed j ≡ is_bound_along w p j
  taken_before n passed j ne le e = rw (longer_chain n (length w.forest) j le e, (way_more n j ne).1) refl

  -- a way that goes on ends after its first step
  pub ends_up : (n j q : ℕ) → parent w.forest j ≡ Some q → ends (parent w.forest) (suc n) j ≡ true → ends (parent w.forest) n q ≡ true
  ends_up n j q up e = grind (arith, up, e)

  -- a mount that is not unbindable is bound where its parent is, except for one that stands on the top
  pub bound_step : IsWellFormed w → (j q : ℕ) → j ≢ p.mount → (state_of w j).unbindable ≡ false → parent w.forest j ≡ Some q → q ≢ p.mount → is_bound_along w p j ≡ is_bound_along w p q
  bound_step h j q ne e up off = rw (below_parent w h p.mount j q ne up, path_step w h p.mount j q ne up, e, (way_more (length w.forest) q off).1) refl

  -- nothing is kept at first, and then one mount more
  pub judged_none : (m : IndexMap ℕ Bool (BuildHasherDefault FoldHasher)) → m.entries ≡ [] → IsJudged w p m
  judged_none m e i b at = absurd (let none : get nat_eq m i ≡ None = ap (lookup (nat_eq i)) e in cc)

  pub judged_more : (m n : IndexMap ℕ Bool (BuildHasherDefault FoldHasher)) (k : ℕ) (b : Bool) → IsJudged w p m → b ≡ is_bound_along w p k
      → ((i : ℕ) → get nat_eq n i ≡ cond (nat_eq k i) (Some b) (get nat_eq m i)) → IsJudged w p n
  judged_more m n k b j e put i c at = let old = j i c in grind (arith, nat_tests, put i, λ (same : k ≡ i). ap (is_bound_along w p) same)
