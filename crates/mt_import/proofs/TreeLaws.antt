-- A tree with one more mount, or with a row that is left out.
use Rattle.std.proofs.Common.{get_or, ◌⊎◌, inl, inr, subst, eqb-true, replicate, ◌≡◌, ℕ, zero, suc, ◌+◌, ◌-◌, ◌≤◌, ◌<◌, ◌==◌, Bool, true, false, cond, List, [], ◌∷◌, ◌++◌, map, length, slice_get, Option, Some, None, Result, Ok, Err, IfOk, refl, sym, ap, ◌∙◌, arith}
use Rattle.std.proofs.Math.ListN.{set}
use Rattle.std.proofs.lemmas.Bool.Decides.{nat_tests}
use Rattle.std.proofs.lemmas.List.{map_push}
use Rattle.std.proofs.lemmas.Option.{slice_get_within}
use Rattle.mt_skel.specs.Counted.{occ}
use Rattle.mt_skel.proofs.CountLaws.{count-append, length-of-map}
use Rattle.mt_import.specs.declared.mount.Mount.{Mount}
use Rattle.mt_import.specs.declared.reason.Reason.{Reason}
use Rattle.mt_import.specs.Placing.{IsRootMount, IsPlacedOn}
use Rattle.mt_import.specs.Reading.{ToldMount}
use Rattle.mt_import.specs.Tree.{is_none, has_mount, is_ring, is_waiting, stand_on_earlier, StandsThere, IsNextMount, IsMakingOrder}

-- one more mount, on one that is there
stands_more : (number : ℕ) (aboves : List ℕ) (above : ℕ) → stand_on_earlier number aboves ≡ true → above ≤ number + length aboves - 1
    → stand_on_earlier number (aboves ++ above ∷ []) ≡ true
stands_more number [] above all is = grind (arith, nat_tests)
stands_more number (x ∷ xs) above all is = let ih = stands_more (suc number) xs above in grind (arith, nat_tests)

-- what an element is once one was set
got_set : {X : Type 0} (xs : List X) (i j : ℕ) (a : X) → i < length xs → slice_get (set xs i a) j ≡ cond (j == i) (Some a) (slice_get xs j)
got_set [] i j a in_it = absurd (omega (arith, in_it))
got_set (x ∷ xs) zero zero a in_it = refl
got_set (x ∷ xs) zero (suc j) a in_it = grind (arith, nat_tests)
got_set (x ∷ xs) (suc i) zero a in_it = grind (arith, nat_tests)
got_set (x ∷ xs) (suc i) (suc j) a in_it = let ih = got_set xs i j a (omega (arith, in_it)) in grind (arith, nat_tests)

-- a row of which the turn has not come has no mount
not_yet : (v : Option (Option Reason)) → is_ring v ≡ true → is_none v ≡ false
not_yet None is = refl
not_yet (Some None) is = cc
not_yet (Some (Some why)) is = refl

-- it is one of the rows
pub waiting_within : (left : List (Option Reason)) (n : ℕ) → is_waiting left n ≡ true → n < length left
waiting_within [] n is = absurd (cc)
waiting_within (v ∷ left) zero is = omega arith
waiting_within (v ∷ left) (suc n) is = let ih = waiting_within left n is in omega (arith, ih)

-- which rows have mounts, once one is left out
rows_left : (numbers : List ℕ) (left : List (Option Reason)) (n : ℕ) (why : Reason) → n < length left → has_mount left n ≡ false
    → ((i : ℕ) → occ i numbers ≡ cond (has_mount left i) 1 0) → (i : ℕ) → occ i numbers ≡ cond (has_mount (set left n (Some why)) i) 1 0
rows_left numbers left n why in_it not rows i = rows i ∙ ap (λ b. cond b 1 0) (sym (ap is_none (got_set left n i (Some why) in_it) ∙ go (i == n) refl))
  where
    go : (b : Bool) → (i == n) ≡ b → is_none (cond b (Some (Some why)) (slice_get left i)) ≡ is_none (slice_get left i)
    go true e = sym (ap (λ k. is_none (slice_get left k)) (eqb-true i n e) ∙ not)
    go false e = refl

-- and once one has one more mount
rows_made : (numbers : List ℕ) (left : List (Option Reason)) (n : ℕ) → n < length left → has_mount left n ≡ false
    → ((i : ℕ) → occ i numbers ≡ cond (has_mount left i) 1 0) → (i : ℕ) → occ i (numbers ++ n ∷ []) ≡ cond (has_mount (set left n None) i) 1 0
rows_made numbers left n in_it not rows i =
    count-append (λ j. j == i) numbers (n ∷ []) ∙ ap (λ k. k + occ i (n ∷ [])) (rows i) ∙ sym (ap (λ v. cond (is_none v) 1 0) (got_set left n i None in_it) ∙ go (i == n) refl)
  where
    go : (b : Bool) → (i == n) ≡ b → cond (is_none (cond b (Some None) (slice_get left i))) 1 0 ≡ cond (is_none (slice_get left i)) 1 0 + cond (n == i) 1 0
    go true e =
        let same : ◌≡◌ {A = ℕ} (cond (is_none (slice_get left i)) 1 0) (cond (is_none (slice_get left n)) 1 0) = ap (λ k. cond (is_none (slice_get left k)) 1 0) (eqb-true i n e) in
        let none : ◌≡◌ {A = ℕ} (cond (is_none (slice_get left n)) 1 0) 0 = ap (λ b. cond b 1 0) not in
        grind (arith, nat_tests)
    go false e = grind (arith, nat_tests)

-- a tree that loses a row of which the turn has not come
pub row_left : (rs : List ToldMount) (ms : List Mount) (left left' : List (Option Reason)) (n : ℕ) (why : Reason) → is_waiting left n ≡ true → n < length left
    → left' ≡ set left n (Some why) → IsMakingOrder rs ms left → IsMakingOrder rs ms left'
row_left rs ms left left' n why turn in_it new tree = record {
  order = tree.order;
  stands = tree.stands;
  once = λ i. rows_left (map (λ (m : Mount). m.number) ms) left n why in_it (not_yet (slice_get left n) turn) tree.once i ∙ ap (λ x. cond (has_mount x i) 1 0) (sym new);
}

-- which mount is there once one more is, and those that were there stay
got_more : (ms : List Mount) (m : Mount) (k : ℕ) (x : Mount) → slice_get (ms ++ m ∷ []) k ≡ Some x → (slice_get ms k ≡ Some x) ⊎ ((k ≡ length ms) × (x ≡ m))
got_more [] m zero x e = inr (refl, cc)
got_more [] m (suc k) x e = absurd (cc)
got_more (y ∷ ms) m zero x e = inl e
got_more (y ∷ ms) m (suc k) x e = go (got_more ms m k x e)
  where
    go : ((slice_get ms k ≡ Some x) ⊎ ((k ≡ length ms) × (x ≡ m))) → (slice_get (y ∷ ms) (suc k) ≡ Some x) ⊎ ((suc k ≡ length (y ∷ ms)) × (x ≡ m))
    go (inl f) = inl f
    go (inr (f, h)) = inr (ap suc f, h)

got_still : (ms ns : List Mount) (k : ℕ) (x : Mount) → slice_get ms k ≡ Some x → slice_get (ms ++ ns) k ≡ Some x
got_still [] ns k x e = absurd (cc)
got_still (y ∷ ms) ns zero x e = e
got_still (y ∷ ms) ns (suc k) x e = got_still ms ns k x e

stands_still : (rs : List ToldMount) (ms ns : List Mount) (k : ℕ) (x : Mount) → StandsThere rs ms k x → StandsThere rs (ms ++ ns) k x
stands_still rs ms ns k x s = record { row = s.row; on = go s.on }
  where
    go : (((x.above ≡ k) × IsRootMount x.row.now x) ⊎ ((p : Mount) × (x.above < k) × (slice_get ms x.above ≡ Some p) × IsPlacedOn p x.row.now k x))
        → ((x.above ≡ k) × IsRootMount x.row.now x) ⊎ ((p : Mount) × (x.above < k) × (slice_get (ms ++ ns) x.above ≡ Some p) × IsPlacedOn p x.row.now k x)
    go (inl e) = inl e
    go (inr (p, before, e, f)) = inr (p, before, got_still ms ns x.above p e, f)

stands_more_at : (rs : List ToldMount) (ms ms' : List Mount) (m : Mount) → ms' ≡ ms ++ m ∷ [] → StandsThere rs ms (length ms) m
    → ((k : ℕ) (x : Mount) → slice_get ms k ≡ Some x → StandsThere rs ms k x) → (k : ℕ) (x : Mount) → slice_get ms' k ≡ Some x → StandsThere rs ms' k x
stands_more_at rs ms ms' m is there all k x e = subst (λ l. StandsThere rs l k x) (sym is) (go (got_more ms m k x (ap (λ l. slice_get l k) (sym is) ∙ e)))
  where
    go : ((slice_get ms k ≡ Some x) ⊎ ((k ≡ length ms) × (x ≡ m))) → StandsThere rs (ms ++ m ∷ []) k x
    go (inl f) = stands_still rs ms (m ∷ []) k x (all k x f)
    go (inr (f, h)) = stands_still rs ms (m ∷ []) k x (subst (λ n. StandsThere rs ms n x) (sym f) (subst (λ y. StandsThere rs ms (length ms) y) (sym h) there))

-- a tree with one more mount
pub mount_more : (rs : List ToldMount) (ms ms' : List Mount) (m : Mount) (left left' : List (Option Reason)) (n : ℕ) → ms' ≡ ms ++ m ∷ [] → IsNextMount rs ms n m
    → is_waiting left n ≡ true → n < length left → left' ≡ set left n None → IsMakingOrder rs ms left → IsMakingOrder rs ms' left'
mount_more rs ms ms' m left left' n is next turn in_it new tree = record {
  order =
      ap (λ x. stand_on_earlier 0 (map (λ (m : Mount). m.above) x)) is ∙ ap (stand_on_earlier 0) (map_push (λ (m : Mount). m.above) ms m)
      ∙ stands_more 0 (map (λ (m : Mount). m.above) ms) m.above tree.order (let e = length-of-map (λ (m : Mount). m.above) ms in let w = next.within in omega (arith, w, e));
  stands = stands_more_at rs ms ms' m is next.stands tree.stands;
  once = λ i.
      ap (λ x. occ i (map (λ (m : Mount). m.number) x)) is ∙ ap (occ i) (map_push (λ (m : Mount). m.number) ms m)
      ∙ ap (λ k. occ i (map (λ (m : Mount). m.number) ms ++ k ∷ [])) next.numbered
      ∙ rows_made (map (λ (m : Mount). m.number) ms) left n in_it (not_yet (slice_get left n) turn) tree.once i ∙ ap (λ x. cond (has_mount x i) 1 0) (sym new);
}

-- a tree of no mounts
pub no_tree : (rs : List ToldMount) (ms : List Mount) (left : List (Option Reason)) (n : ℕ) (why : Reason) → ms ≡ [] → left ≡ replicate n (Some why) → IsMakingOrder rs ms left
no_tree rs ms left n why e0 e1 = record {
  order = ap (λ x. stand_on_earlier 0 (map (λ (m : Mount). m.above) x)) e0;
  stands = λ k x e. absurd (none (ap (λ l. slice_get l k) (sym e0) ∙ e));
  once = λ i. ap (λ x. occ i (map (λ (m : Mount). m.number) x)) e0 ∙ sym (ap (λ x. cond (has_mount x i) 1 0) e1 ∙ ap (λ b. cond b 1 0) (go n i));
}
  where
    none : {X : Type 0} {x : X} → None ≡ Some x → ⊥
    none e = cc

    go : (n i : ℕ) → has_mount (replicate n (Some why)) i ≡ false
    go zero i = refl
    go (suc n) zero = refl
    go (suc n) (suc i) = go n i

-- what is found at a place
pub got_of : {X : Type 0} (xs : List X) (i : ℕ) (x : X) → i < length xs → x ≡ get_or xs i x → slice_get xs i ≡ Some x
got_of [] i x inside e = absurd (omega (arith, inside))
got_of (y ∷ xs) zero x inside e = ap (λ z. Some z) (sym e)
got_of (y ∷ xs) (suc i) x inside e = got_of xs i x (omega (arith, inside)) e

-- the first mount is the next one of a tree of none
pub next_root : (rs : List ToldMount) (ms : List Mount) (row : ToldMount) (n : ℕ) (placed : Result Mount Reason) → length ms ≡ 0 → slice_get rs n ≡ Some row
    → IfOk placed (λ m. IsRootMount row m) → IfOk placed (λ m. (m.row.now ≡ row) × (m.number ≡ n) × (m.above ≡ 0)) → IfOk placed (λ m. IsNextMount rs ms n m)
next_root rs ms row n (Err why) none there place of = tt
next_root rs ms row n (Ok m) none there place (e, f, h) = record {
  numbered = f;
  within = omega (arith, none, h);
  stands = record { row = ap (slice_get rs) f ∙ there ∙ ap (λ r. Some r) (sym e); on = inl (h ∙ sym none, subst (λ r. IsRootMount r m) (sym e) place) };
}

-- and one that stands on another mount
pub next_on : (rs : List ToldMount) (ms : List Mount) (row : ToldMount) (n here above : ℕ) (parent : Mount) (placed : Result Mount Reason) → here ≡ length ms → slice_get ms above ≡ Some parent
    → slice_get rs n ≡ Some row → IfOk placed (λ m. IsPlacedOn parent row here m) → IfOk placed (λ m. (m.row.now ≡ row) × (m.number ≡ n) × (m.above ≡ above))
    → IfOk placed (λ m. IsNextMount rs ms n m)
next_on rs ms row n here above parent (Err why) next on there place of = tt
next_on rs ms row n here above parent (Ok m) next on there place (e, f, h) = record {
  numbered = f;
  within = (let inside = slice_get_within ms above parent on in omega (arith, inside, h));
  stands = record {
    row = ap (slice_get rs) f ∙ there ∙ ap (λ r. Some r) (sym e);
    on = inr (parent, (let inside = slice_get_within ms above parent on in omega (arith, inside, h)), ap (slice_get ms) h ∙ on, subst (λ r. IsPlacedOn parent r (length ms) m) (sym e) (subst (λ k. IsPlacedOn parent row k m) next place));
  };
}

-- a mount that was placed is next
pub next_is : (rs : List ToldMount) (ms : List Mount) (n : ℕ) (placed : Result Mount Reason) (m : Mount) → placed ≡ Ok m → IfOk placed (λ m. IsNextMount rs ms n m) → IsNextMount rs ms n m
next_is rs ms n (Err why) m e next = absurd (cc)
next_is rs ms n (Ok x) m e next = subst (λ p. IfOk p (λ m. IsNextMount rs ms n m)) e next
