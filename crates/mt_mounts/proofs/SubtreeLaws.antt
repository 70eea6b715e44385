-- What is gathered down from a mount, children by children, are the mounts of its tree, each once.
use Rattle.std.proofs.Common.{◌≡◌, ℕ, suc, ◌+◌, ◌≤◌, ◌<◌, Bool, true, false, cond, not, ◌&&◌, ◌||◌, ◌==◌, eq-eqb, List, [], ◌∷◌, ◌++◌, take, map, length, get_or, Option, Some, None, refl, sym, ap, subst, ◌∙◌, inl, inr, arith, IsPermutation}
use Rattle.std.specs.List.{filter, list_any}
use Rattle.std.specs.List.Sorted.{IsSorted}
use Rattle.std.specs.Ordering.{nat_cmp}
use Rattle.std.specs.Option.{is_some, option_map, option_map_or}
use Rattle.std.proofs.Math.Bool.{and_comm, and_assoc, and-false}
use Rattle.std.proofs.lemmas.Bool.{cases_eq, ne_eqb, false≢true, cond-true, cond-false}
use Rattle.std.proofs.lemmas.Bool.Decides.{nat_tests}
use Rattle.std.proofs.lemmas.List.{length-append}
use Rattle.mt_skel.specs.Chain.{chain}
use Rattle.mt_skel.specs.Keyed.{rises}
use Rattle.mt_skel.specs.Counted.{count, occ}
use Rattle.mt_skel.proofs.CountLaws.{count-same, count-or, count-length, count-filter, count-map, count-row, length-filter, length-of-map, is_next}
use Rattle.mt_skel.proofs.KeyedLaws.{row_at-key, rises-filter}
use Rattle.mt_skel.proofs.SortedLaws.{sorted-is, rises-keys}
use Rattle.mt_skel.proofs.WorklistLaws.{is_found, is_found-snoc, apart-new, IsGathered, there, gathered-start, gathered-next, gathered-end, gathered-all, next-new, front-next}
use Rattle.mt_mounts.specs.declared.mount.Mount.{Mount}
use Rattle.mt_mounts.specs.declared.mount.Place.{Place}
use Rattle.mt_mounts.specs.Forest.{id_of, mount_at, parent, is_below, subtree, stands_on, children}
use Rattle.mt_mounts.proofs.CycleLaws.{above_of}
use Rattle.mt_mounts.proofs.Walks.{below_stop}

-- the children of m that are not g, where the gathering began
abbrev pub gathered_by : List Mount → ℕ → ℕ → List ℕ
gathered_by ms g m = filter (λ c. not (c == g)) (children ms m)

-- a mount that stands on one of the list
abbrev pub stands_in : List ℕ → Mount → Bool
stands_in done x = is_found done (above_of (Some x))

same_child : (m : ℕ) (o : Option Place) → is_next (option_map (λ (p : Place). p.mount) o) m ≡ option_map_or (λ (p : Place). p.mount == m) o false
same_child m None = refl
same_child m (Some p) = refl

-- each child of m but g is gathered at m, once, and no other mount
pub gathered-once : (ms : List Mount) (g m q : ℕ) → rises id_of ms ≡ true → occ q (gathered_by ms g m) ≡ cond (not (q == g) && is_next (parent ms q) m) 1 0
gathered-once ms g m q up =
    count-filter (λ j. j == q) (λ c. not (c == g)) (children ms m)
    ∙ count-map (λ j. not (j == g) && (j == q)) id_of (filter (stands_on m) ms)
    ∙ count-filter (λ (x : Mount). not (x.id == g) && (x.id == q)) (stands_on m) ms
    ∙ count-same (λ (x : Mount). stands_on m x && (not (x.id == g) && (x.id == q))) (λ (x : Mount). (x.id == q) && (not (x.id == g) && stands_on m x)) (λ x. turned (stands_on m x) (not (x.id == g)) (x.id == q)) ms
    ∙ count-row id_of (λ (x : Mount). not (x.id == g) && stands_on m x) q ms up
    ∙ go (mount_at ms q) refl
  where
    turned : (a b c : Bool) → (a && (b && c)) ≡ (c && (b && a))
    turned a b c = and_comm a (b && c) ∙ ap (λ z. z && a) (and_comm b c) ∙ and_assoc c b a

    go : (o : Option Mount) → mount_at ms q ≡ o → ◌≡◌ {A = ℕ} (option_map_or (λ (x : Mount). cond (not (x.id == g) && stands_on m x) 1 0) o 0) (cond (not (q == g) && is_next (above_of o) m) 1 0)
    go None e = ap (λ b. cond b 1 0) (sym (and-false (not (q == g))))
    go (Some x) e =
        ap (λ b. cond (not (x.id == g) && b) 1 0) (sym (same_child m x.place))
        ∙ ap (λ k. cond (not (k == g) && is_next (above_of (Some x)) m) 1 0) (row_at-key id_of q ms x e)

-- the children of the mounts `done` were gathered after g, and these are `all`
pub record IsGathering (ms : List Mount) (g : ℕ) (done all : List ℕ) : Type 0 where
  pub gathered : IsGathered (parent ms) g done all
  pub few : length all ≤ suc (count (stands_in done) ms)

pub gathering-start : (ms : List Mount) (g : ℕ) → IsGathering ms g [] (g ∷ [])
gathering-start ms g = record { gathered = gathered-start (parent ms) g; few = omega arith }

-- the children of one mount more of the list are gathered
module _ (ms : List Mount) (g i d : ℕ) (all : List ℕ) (up : rises id_of ms ≡ true) (w : IsGathering ms g (take i all) all) (in_all : i < length all) where
  stands-more : count (stands_in (take i all ++ get_or all i d ∷ [])) ms ≡ count (stands_in (take i all)) ms + count (stands_on (get_or all i d)) ms
  stands-more =
      let m = get_or all i d in
      let done = take i all in
      let new = next-new (parent ms) g i d all w.gathered in_all in
      count-or (stands_in (done ++ m ∷ [])) (stands_in done) (stands_on m)
      (λ x. is_found-snoc done m (above_of (Some x)) ∙ ap (λ b. stands_in done x || b) (same_child m x.place))
      (λ x. ap (λ b. stands_in done x && b) (sym (same_child m x.place)) ∙ apart-new done m new.0 (above_of (Some x)))
      ms

  gathering-few : length (all ++ gathered_by ms g (get_or all i d)) ≤ suc (count (stands_in (take i all ++ get_or all i d ∷ [])) ms)
  gathering-few =
      let m = get_or all i d in
      let whole = length-append all (gathered_by ms g m) in
      let some = length-filter (λ c. not (c == g)) (children ms m) in
      let most = count-length (λ c. not (c == g)) (children ms m) in
      let ids = length-of-map id_of (filter (stands_on m) ms) in
      let all_children = length-filter (stands_on m) ms in
      let more = stands-more in
      let few = w.few in
      omega arith

  pub gathering-next : IsGathering ms g (take (i + 1) (all ++ gathered_by ms g (get_or all i d))) (all ++ gathered_by ms g (get_or all i d))
  gathering-next = record {
    gathered = gathered-next (parent ms) g i d all w.gathered in_all (gathered_by ms g (get_or all i d)) (λ q. gathered-once ms g (get_or all i d) q up);
    few = subst (λ done. length (all ++ gathered_by ms g (get_or all i d)) ≤ suc (count (stands_in done) ms)) (sym (front-next (parent ms) g i d all w.gathered in_all (gathered_by ms g (get_or all i d)))) gathering-few;
  }

-- no more mounts are gone over than there are, and g
pub gathering-bound : (ms : List Mount) (g : ℕ) (done all : List ℕ) → IsGathering ms g done all → length all ≤ suc (length ms)
gathering-bound ms g done all w = let f = w.few in let l = count-length (stands_in done) ms in omega arith

-- at the end of the list
pub gathering-end : (ms : List Mount) (g i : ℕ) (all : List ℕ) → IsGathering ms g (take i all) all → length all ≤ i → (q : ℕ) → occ q all ≡ cond (is_below ms g q) 1 0
gathering-end ms g i all w l q =
    let whole = gathered-end (parent ms) g i all w.gathered l in
    let found = gathered-all (parent ms) g all (length ms) whole (gathering-bound ms g (take i all) all w) q in
    whole.once q ∙ ap (λ b. cond b 1 0) (sym (there (parent ms) g all all whole q) ∙ found ∙ turned (chain (parent ms) (length ms) q))
  where
    turned : (xs : List ℕ) → list_any (λ k. k == g) xs ≡ list_any (λ k. g == k) xs
    turned [] = refl
    turned (x ∷ xs) = let ih = turned xs in grind (arith, nat_tests)

-- how often a number stands in the tree of g, and in a list without g
subtree-row : (ms : List Mount) (g q : ℕ) → rises id_of ms ≡ true → occ q (subtree ms g) ≡ cond (is_some (mount_at ms q) && is_below ms g q) 1 0
subtree-row ms g q up =
    count-filter (λ j. j == q) (is_below ms g) (map id_of ms)
    ∙ count-map (λ j. is_below ms g j && (j == q)) id_of ms
    ∙ count-same (λ (x : Mount). is_below ms g x.id && (x.id == q)) (λ (x : Mount). (x.id == q) && is_below ms g x.id) (λ x. and_comm (is_below ms g x.id) (x.id == q)) ms
    ∙ count-row id_of (λ (x : Mount). is_below ms g x.id) q ms up ∙ go (mount_at ms q) (row_at-key id_of q ms)
  where
    go : (o : Option Mount) → ((x : Mount) → o ≡ Some x → x.id ≡ q) → ◌≡◌ {A = ℕ} (option_map_or (λ (x : Mount). cond (is_below ms g x.id) 1 0) o 0) (cond (is_some o && is_below ms g q) 1 0)
    go None k = refl
    go (Some x) k = ap (λ i. cond (is_below ms g i) 1 0) (k x refl)

occ-without : (g q : ℕ) (xs : List ℕ) → occ q (filter (λ j. not (j == g)) xs) ≡ cond (q == g) 0 (occ q xs)
occ-without g q [] = grind (arith, nat_tests)
occ-without g q (x ∷ xs) = let ih = occ-without g q xs in grind (arith, nat_tests)

-- a number below g is a mount, except for g where that is not there
below-known : (ms : List Mount) (g q : ℕ) → (q ≡ g → is_some (mount_at ms q) ≡ true) → is_below ms g q ≡ (is_some (mount_at ms q) && is_below ms g q)
below-known ms g q f = go (mount_at ms q) refl f
  where
    go : (o : Option Mount) → mount_at ms q ≡ o → (q ≡ g → is_some o ≡ true) → is_below ms g q ≡ (is_some o && is_below ms g q)
    go None e f = below_stop ms g (length ms) q (ap above_of e) ∙ ap (λ b. b || false) (ne_eqb g q (λ s. false≢true (f (sym s))))
    go (Some x) e f = refl

-- where g is there, all that was gathered is its tree, and where it is not, all but g is
pub members-there : (ms : List Mount) (g : ℕ) (all : List ℕ) → rises id_of ms ≡ true → is_some (mount_at ms g) ≡ true → ((q : ℕ) → occ q all ≡ cond (is_below ms g q) 1 0) → (q : ℕ) → occ q all ≡ occ q (subtree ms g)
members-there ms g all up known below q =
    below q ∙ ap (λ b. cond b 1 0) (below-known ms g q (λ s. ap (λ k. is_some (mount_at ms k)) s ∙ known)) ∙ sym (subtree-row ms g q up)

pub members-absent : (ms : List Mount) (g : ℕ) (all : List ℕ) → rises id_of ms ≡ true → is_some (mount_at ms g) ≡ false → ((q : ℕ) → occ q all ≡ cond (is_below ms g q) 1 0)
    → (q : ℕ) → occ q (filter (λ j. not (j == g)) all) ≡ occ q (subtree ms g)
members-absent ms g all up unknown below q = occ-without g q all ∙ (elim (cases_eq q g) [
  | inl s ↦ cond-true _ _ _ (eq-eqb q g s) ∙ sym (subtree-row ms g q up ∙ ap (λ b. cond (b && is_below ms g q) 1 0) (ap (λ k. is_some (mount_at ms k)) s ∙ unknown))
  | inr ne ↦ cond-false _ _ _ (ne_eqb q g ne) ∙ below q ∙ ap (λ b. cond b 1 0) (below-known ms g q (λ s. absurd (ne s))) ∙ sym (subtree-row ms g q up)
])

-- sorted, these are the tree
pub sorted-members : (ms : List Mount) (g : ℕ) (ids vs : List ℕ) → rises id_of ms ≡ true → ((q : ℕ) → occ q ids ≡ occ q (subtree ms g)) → IsPermutation ids vs → IsSorted nat_cmp vs → vs ≡ subtree ms g
sorted-members ms g ids vs up same moved sorted = sorted-is ids vs (subtree ms g) moved sorted same (rises-filter (λ n. n) (is_below ms g) (map id_of ms) (rises-keys id_of ms ∙ up))
