-- The mounts of each namespace stay one tree where another mount of one becomes its root mount, even where that is done mount by
-- mount; so a pivot that is accepted keeps worlds well-formed and namespaces contained, and changes nothing outside its namespace.
use Rattle.std.proofs.Common.{◌≡◌, ℕ, Bool, true, false, List, Option, Some, None, Ok, Err, refl, sym, ap, ◌∙◌, subst, ◌≢◌, ◌⊎◌, suc, ◌+◌, ◌<◌, cond, ◌||◌, eq-eqb, map, length, inl, inr, arith, IsTrue, eqb-true, not, ◌==◌}
use Rattle.std.specs.Prelude.{unwrap_or, is_none}
use Rattle.std.specs.Option.{option_map, option_map_or, ok_or}
use Rattle.std.proofs.lemmas.Bool.{true≢false, cases_eq, ne_eqb}
use Rattle.std.proofs.lemmas.Bool.Decides.{nat_tests}
use Rattle.mt_skel.specs.declared.fault.Fault.TheVariants.{NoNamespace, NoEntry}
use Rattle.mt_skel.specs.Outcome.{refusal_of}
use Rattle.mt_skel.proofs.KeyedLaws.{row_at-key, rises-map, row_at-map, row_at-filter, rises-filter, rises-put, same_rows}
use Rattle.mt_skel.specs.Skeleton.{holds, directory}
use Rattle.mt_skel.specs.Keyed.{rises, put}
use Rattle.mt_mounts.specs.declared.mount.Mount.{Mount}
use Rattle.mt_mounts.specs.declared.mount.Place.{Place}
use Rattle.mt_mounts.specs.Forest.{id_of, mount_at, is_below, is_root, root_mount, root_place, is_at, parent, in_space, on}
use Rattle.mt_mounts.specs.Walk.{walk, walk_from}
use Rattle.mt_mounts.proofs.ForestLaws.{find_row, find_passes, find_none}
use Rattle.mt_mounts.proofs.Walks.{below_stop}
use Rattle.mt_mounts.proofs.CycleLaws.{above_of, no_cycle, rank_of}
use Rattle.mt_mounts.specs.ForestView.{with_place, without_id}
use Rattle.mt_mounts.proofs.SlotLaws.{none_found, row_put_here, row_put_later, row_kept}
use Rattle.mt_peers.proofs.MemberLaws.{some-is}
use Rattle.mt_propagate.specs.World.{WorldView, space_of, root_dir}
use Rattle.mt_propagate.specs.Named.{unknown, is_root_place, is_root_mount}
use Rattle.mt_propagate.specs.WellFormed.{IsWellFormed, IsForest, fs_at}
use Rattle.mt_propagate.specs.Contained.{IsContained, IsSameOutside}
use Rattle.mt_propagate.proofs.ContainedLaws.{ended-inside, below-space}
use Rattle.mt_propagate.proofs.WalkLaws.{walked, root_here}
use Rattle.mt_propagate.proofs.CopyForestLaws.{stands_here}
use Rattle.mt_propagate.proofs.CopyRowLaws.{space_is}
use Rattle.mt_propagate.proofs.DetachedTreeLaws.{trees_stay}
use Rattle.mt_skel.proofs.MiddleLaws.{each_still}
use Rattle.mt_propagate.proofs.RowLaws.{mapped-row, row-mapped, found-each, keys-map, part-mapped}
use Rattle.mt_propagate.proofs.TreeLaws.{parent-from, parent-is, rank-fell}
use Rattle.mt_propagate.proofs.MovedForestLaws.{lifted, from_lifted}
use Rattle.mt_bind.specs.Pivoting.{root_id, pivoted, with_pivot, MayPivot, pivoted_mount}
use Rattle.mt_bind.proofs.AcceptedLaws.{path_end, pivot_accepted}
use Rattle.mt_bind.proofs.MountLaws.{destination}
use Rattle.mt_bind.proofs.TreeOfLaws.{below_parent}
use Rattle.mt_bind.proofs.SourceCopyLaws.{each_way}

-- a root mount has no place
pub root_unplaced : (n : ℕ) (m : Mount) → is_root n m ≡ true → m.place ≡ None
root_unplaced n m e = let none = (root_here n m e).0 in grind arith

-- the mounts once one of them has become the root mount
module _ (w : WorldView) (h : IsWellFormed w) (i j : ℕ) (p : Place) (a : MayPivot w i j p) where
  abbrev ms : List Mount
  ms = w.forest

  abbrev pivot : Mount → Mount
  pivot = pivoted_mount i j p

  -- the two differ, since one has a place and the other has none
  pub differ : i ≢ j
  differ same = a.placed (ap (λ (m : Mount). m.place) (some-is a.top a.root (sym a.top_there ∙ ap (mount_at ms) same ∙ a.root_there)) ∙ a.unplaced)

  -- a pivot takes the place of the new root mount away, gives this place to the old one, and leaves any other mount its own
  pub pivot_cases : (P : Option Place → Type 0) (k : ℕ) (x : Mount) → mount_at ms k ≡ Some x → (k ≡ i → x ≡ a.top → P None) → (k ≡ j → x ≡ a.root → P (Some p)) → (k ≢ i → k ≢ j → P x.place) → P (pivot x).place
  pivot_cases P k x e new old other =
      let own = row_at-key id_of k ms x e in
      elim (cases_eq k i) [
        | inl same ↦ rw (eq-eqb x.id i (own ∙ same)) (new same (some-is x a.top (sym e ∙ ap (mount_at ms) same ∙ a.top_there)))
        | inr off ↦ rw (ne_eqb x.id i (λ s. off (sym own ∙ s))) (elim (cases_eq k j) [
          | inl same ↦ rw (eq-eqb x.id j (own ∙ same)) (old same (some-is x a.root (sym e ∙ ap (mount_at ms) same ∙ a.root_there)))
          | inr away ↦ rw (ne_eqb x.id j (λ s. away (sym own ∙ s))) (other off away)
        ])
      ]

  -- a mount that has a place then is the old root mount, or had it before
  pub stands : (k : ℕ) (x : Mount) (q : Place) → mount_at ms k ≡ Some x → (pivot x).place ≡ Some q → ((k ≡ j) × (p ≡ q) × (x ≡ a.root)) ⊎ ((k ≢ i) × (x.place ≡ Some q))
  stands k x q e =
      pivot_cases (λ o. o ≡ Some q → ((k ≡ j) × (p ≡ q) × (x ≡ a.root)) ⊎ ((k ≢ i) × (x.place ≡ Some q))) k x e (λ _ _ at. absurd (let v : None ≡ Some q = at in cc))
      (λ same is at. inl (same, some-is p q at, is)) (λ off away at. inr (off, at))

  -- and one that has none is the new root mount, or had none and is not the old one
  rootless : (k : ℕ) (x : Mount) → mount_at ms k ≡ Some x → (pivot x).place ≡ None → ((k ≡ i) × (x ≡ a.top)) ⊎ ((k ≢ j) × (x.place ≡ None))
  rootless k x e =
      pivot_cases (λ o. o ≡ None → ((k ≡ i) × (x ≡ a.top)) ⊎ ((k ≢ j) × (x.place ≡ None))) k x e (λ same is at. inl (same, is))
      (λ _ _ at. absurd (let v : Some p ≡ None = at in cc)) (λ off away at. inr (away, at))

  -- nothing stood at the place
  none_there : (k : ℕ) (x : Mount) → mount_at ms k ≡ Some x → x.place ≡ Some p → ⊥
  none_there k x e at = true≢false (sym (stands_here x p at) ∙ find_none (is_at p) ms a.destination.free k x e)

  was : (k : ℕ) (b : Mount) → mount_at (map pivot ms) k ≡ Some b → (x : Mount) × (mount_at ms k ≡ Some x) × (b.place ≡ (pivot x).place) × (b.space ≡ x.space)
  was k b e = let x = mapped-row id_of pivot (λ m. refl) ms k b e in (x.0, x.1, ap (λ (m : Mount). m.place) x.2, ap (λ (m : Mount). m.space) x.2)

  now : (k : ℕ) (x : Mount) → mount_at ms k ≡ Some x → mount_at (map pivot ms) k ≡ Some (pivot x)
  now k x e = row-mapped id_of pivot (λ m. refl) ms k x e

  -- no mount but the old one was a root mount of its namespace
  one_old : (k : ℕ) (x : Mount) → mount_at ms k ≡ Some x → k ≢ j → x.place ≡ None → x.space ≡ a.top.space → ⊥
  one_old k x e away at here = away (h.forest.one_root k j x a.root e a.root_there at a.unplaced (here ∙ sym a.same_space))

  -- the old root mount is not below the new one
  above : is_below ms i j ≡ false
  above =
      let stop : parent ms j ≡ None = ap above_of a.root_there ∙ ap (option_map (λ (q : Place). q.mount)) a.unplaced in
      below_stop ms i (length ms) j stop ∙ ap (λ b. b || false) (ne_eqb i j differ)

  -- all that is not below the new root mount gets the numbers above that of the place
  abbrev rank : ℕ → ℕ
  rank k = cond (is_below ms i k) (rank_of ms k) (rank_of ms k + suc (rank_of ms p.mount))

  rank_falls : (x y : ℕ) → parent (map pivot ms) x ≡ Some y → rank y < rank x
  rank_falls x y e =
      let m = parent-from (map pivot ms) x y e in
      let u = was x m.0 m.2 in
      elim (stands x u.0 m.1 u.1 (sym u.2 ∙ m.3)) [
        | inl old ↦ rw (old.0, above, sym m.4, sym old.1, a.inside) (omega arith)
        | inr still ↦
            let f = rank-fell w.skel ms h.forest x u.0 m.1 u.1 still.1 in
            rw (sym m.4, below_parent w h i x m.1.mount still.0 (parent-is ms x u.0 m.1 u.1 still.1))
            (elim (is_below ms i m.1.mount) as (λ b. cond b (rank_of ms m.1.mount) (rank_of ms m.1.mount + suc (rank_of ms p.mount)) < cond b (rank_of ms x) (rank_of ms x + suc (rank_of ms p.mount))) [ true ↦ f | false ↦ omega (arith, f) ])
      ]

  pub pivot_forest : IsForest w.skel (map pivot ms)
  pivot_forest = record {
    rising = rises-map id_of pivot (λ m. refl) ms ∙ h.forest.rising;
    placed = λ k b q e at.
        let x = was k b e in
        elim (stands k x.0 q x.1 (sym x.2 ∙ at)) [
          | inl old ↦
              let there = a.destination.there in
              let space : there.0.space ≡ b.space =
              sym (below-space w h i p.mount there.0 there.1 a.inside) ∙ space_is w i a.top a.top_there ∙ sym a.same_space ∙ ap (λ (m : Mount). m.space) (sym old.2) ∙ sym x.3 in
              subst (λ (q : Place). (u : Mount) × (mount_at (map pivot ms) q.mount ≡ Some u) × (u.space ≡ b.space) × IsTrue (holds w.skel u.root q.dir)) old.1
              (pivot there.0, now p.mount there.0 there.1, space, there.2)
          | inr still ↦
              let u = h.forest.placed k x.0 q x.1 still.1 in
              (pivot u.0, now q.mount u.0 u.1, u.2 ∙ sym x.3, u.3)
        ];
    apart = λ k l b d q ek el bq dq.
        let x = was k b ek in
        let y = was l d el in
        each_way (stands k x.0 q x.1 (sym x.2 ∙ bq)) (stands l y.0 q y.1 (sym y.2 ∙ dq))
        (λ old too. old.0 ∙ sym too.0)
        (λ old still. absurd (none_there l y.0 y.1 (still.1 ∙ ap (λ q. Some q) (sym old.1))))
        (λ still old. absurd (none_there k x.0 x.1 (still.1 ∙ ap (λ q. Some q) (sym old.1))))
        (λ still too. h.forest.apart k l x.0 y.0 q x.1 y.1 still.1 too.1);
    rooted = λ k b e.
        let x = was k b e in
        elim (cases_eq x.0.space a.top.space) [
          | inl here ↦ (i, pivot a.top, now i a.top a.top_there, pivot_cases (λ o. o ≡ None) i a.top a.top_there (λ _ _. refl) (λ s _. absurd (differ s)) (λ off _. absurd (off refl)), sym here ∙ sym x.3)
          | inr other ↦
              let r = h.forest.rooted k x.0 x.1 in
              let space : (k : ℕ) (m : Mount) → mount_at ms k ≡ Some m → r.0 ≡ k → x.0.space ≡ m.space =
              λ k m f s. sym r.4 ∙ ap (λ (m : Mount). m.space) (some-is r.1 m (sym r.2 ∙ ap (mount_at ms) s ∙ f)) in
              let away : r.0 ≢ j = λ s. other (space j a.root a.root_there s ∙ a.same_space) in
              let off : r.0 ≢ i = λ s. other (space i a.top a.top_there s) in
              (r.0, pivot r.1, now r.0 r.1 r.2, pivot_cases (λ o. o ≡ None) r.0 r.1 r.2 (λ s _. absurd (off s)) (λ s _. absurd (away s)) (λ _ _. r.3), r.4 ∙ sym x.3)
        ];
    one_root = λ k l b d ek el bn dn same.
        let x = was k b ek in
        let y = was l d el in
        let spaces : x.0.space ≡ y.0.space = sym x.3 ∙ same ∙ y.3 in
        each_way (rootless k x.0 x.1 (sym x.2 ∙ bn)) (rootless l y.0 y.1 (sym y.2 ∙ dn))
        (λ new too. new.0 ∙ sym too.0)
        (λ new old. absurd (one_old l y.0 y.1 old.0 old.1 (sym spaces ∙ ap (λ (m : Mount). m.space) new.1)))
        (λ old new. absurd (one_old k x.0 x.1 old.0 old.1 (spaces ∙ ap (λ (m : Mount). m.space) new.1)))
        (λ old too. h.forest.one_root k l x.0 y.0 x.1 y.1 old.1 too.1 spaces);
    no_cycle = no_cycle (map pivot ms) rank rank_falls;
  }

  -- a pivot done mount by mount: the new root mount goes, the old one is moved to the place, and the new one comes back without one
  abbrev gone : List Mount
  gone = without_id i ms

  abbrev moved : List Mount
  moved = with_place j p gone

  gone_rises : rises id_of gone ≡ true
  gone_rises = rises-filter id_of (λ (m : Mount). not (m.id == i)) ms h.forest.rising

  moved_rises : rises id_of moved ≡ true
  moved_rises = rises-map id_of (lifted j p) (λ x. refl) gone ∙ gone_rises

  -- the place is free still
  pub free_still : on gone p ≡ None
  free_still = none_found _ (λ x e.
      let row = row_kept ms i x.id x h.forest.rising (find_row (is_at p) gone x gone_rises e) in
      true≢false (sym (find_passes (is_at p) gone x e) ∙ find_none (is_at p) ms a.destination.free x.id x row.0))

  -- what is there then was there, and is not the new root mount
  remained : (k : ℕ) (b : Mount) → mount_at moved k ≡ Some b → (x : Mount) × (mount_at ms k ≡ Some x) × (x.id ≢ i) × (b ≡ lifted j p x)
  remained k b e =
      let x = from_lifted gone j p k b e in
      let row = row_kept ms i k x.0 h.forest.rising x.1 in
      (x.0, row.0, row.1, x.2)

  module _ (m : Mount) (there : mount_at ms i ≡ Some m) where
    abbrev back : Mount
    back = record m { place = None }

    own : m.id ≡ i
    own = row_at-key id_of i ms m there

    -- its number is free then
    pub absent_then : mount_at moved m.id ≡ None
    absent_then = none_found _ (λ b e. let x = remained m.id b e in absurd (x.2 (row_at-key id_of m.id ms x.0 x.1 ∙ own)))

    -- no other mount of the namespace has no place then
    pub rootless_then : root_mount moved m.space ≡ None
    rootless_then = none_found _ (λ b e.
        let n = m.space in
        let row = find_row (is_root n) moved b moved_rises e in
        let passes = find_passes (is_root n) moved b e in
        let x = remained b.id b row in
        let place : cond (x.0.id == j) (Some p) x.0.place ≡ None = ap (λ (m : Mount). m.place) (sym x.3) ∙ root_unplaced n b passes in
        let none : x.0.place ≡ None = grind (arith, nat_tests) in
        let off : x.0.id ≢ j = λ old. (let t = eq-eqb x.0.id j old in grind arith) in
        let space : x.0.space ≡ a.root.space =
        sym (ap (λ (m : Mount). m.space) x.3) ∙ (root_here n b passes).1 ∙ ap (λ (m : Mount). m.space) (some-is m a.top (sym there ∙ a.top_there)) ∙ sym a.same_space in
        off (row_at-key id_of b.id ms x.0 x.1 ∙ h.forest.one_root b.id j x.0 a.root x.1 a.root_there none a.unplaced space))

    same-row : (k : ℕ) → mount_at (put id_of back moved) k ≡ mount_at (map (pivoted_mount i j p) ms) k
    same-row k = elim (cases_eq k i) [
      | inl same ↦ rw (same, row_put_here moved back i own, row_at-map id_of (pivoted_mount i j p) (λ x. refl) i ms, there, eq-eqb m.id i own) refl
      | inr off ↦
          rw (row_put_later moved back k (λ s. off (sym s ∙ own)), row_at-map id_of (lifted j p) (λ x. refl) k gone, row_at-filter id_of (λ (m : Mount). not (m.id == i)) k ms h.forest.rising, row_at-map id_of (pivoted_mount i j p) (λ x. refl) k ms)
          (grind (arith, nat_tests, row_at-key id_of k ms))
    ]

    pub exchanged : put id_of back moved ≡ map (pivoted_mount i j p) ms
    exchanged =
        same_rows id_of (put id_of back moved) (map (pivoted_mount i j p) ms) (rises-put id_of back moved moved_rises)
        (rises-map id_of (pivoted_mount i j p) (λ x. refl) ms ∙ h.forest.rising) same-row

-- the world then
module _ (w : WorldView) (i j : ℕ) (p : Place) where
  abbrev pivoting : Mount → Mount
  pivoting = pivoted_mount i j p

  -- what a pivoting does not change of mounts, their roots and namespaces, is what it was
  same : (part : Mount → ℕ) → ((m : Mount) → part (pivoting m) ≡ part m) → (k : ℕ) → unwrap_or (option_map part (mount_at (map pivoting w.forest) k)) 0 ≡ unwrap_or (option_map part (mount_at w.forest k)) 0
  same part kept k = rw (row_at-map id_of pivoting (λ m. refl) k w.forest) (grind (arith, kept))

  same_root : (k : ℕ) → root_dir (with_pivot w i j p) k ≡ root_dir w k
  unfolding with_pivot
  same_root = same (λ (m : Mount). m.root) (λ m. refl)

  same_space : (k : ℕ) → space_of (with_pivot w i j p) k ≡ space_of w k
  unfolding with_pivot
  same_space = same (λ (m : Mount). m.space) (λ m. refl)

  same_fs : (k : ℕ) → fs_at (with_pivot w i j p) k ≡ fs_at w k
  unfolding with_pivot
  same_fs k = ap (λ d. (directory w.skel d).fs) (same_root k)

  -- a contained family stays so, in whichever namespace the pivot is
  pub pivot_contained : (family : ℕ → Bool) → IsContained family w → IsContained family (with_pivot w i j p)
  unfolding with_pivot
  pivot_contained family c = record {
    groups = λ x y g ex ey q. ap family (same_space y) ∙ c.groups x y g ex ey (ap family (sym (same_space x)) ∙ q);
    chains = λ x y m g ex ey q far. ap family (same_space x) ∙ c.chains x y m g ex ey (ap family (sym (same_space y)) ∙ q) far;
  }

  module _ (h : IsWellFormed w) (a : MayPivot w i j p) where
    pub pivot_kept : IsWellFormed (with_pivot w i j p)
    unfolding with_pivot
    pivot_kept = record {
      forest = pivot_forest w h i j p a;
      peering = h.peering;
      same_mounts = keys-map id_of pivoting (λ m. refl) w.forest ∙ h.same_mounts;
      from_one = h.from_one;
      below = λ k m e.
          let x = mapped-row id_of pivoting (λ m. refl) w.forest k m e in
          rw x.2 (h.below k x.0 x.1);
      group_fs = λ x y g ex ey. same_fs x ∙ h.group_fs x y g ex ey ∙ sym (same_fs y);
      master_fs = λ x y g ex ey. same_fs x ∙ h.master_fs x y g ex ey ∙ sym (same_fs y);
      trees = trees_stay w.skel w.forest (map pivoting w.forest) h.forest.rising (pivot_forest w h i j p a) (λ k m e root. (k, pivoting m, row-mapped id_of pivoting (λ m. refl) w.forest k m e, refl)) w.trees h.trees;
    }

    module _ (family : ℕ → Bool) (here : family (space_of w i) ≡ true) where
      top_here : family a.top.space ≡ true
      top_here = ap family (sym (space_is w i a.top a.top_there)) ∙ here

      -- a mount outside keeps its place
      unchanged : (m : Mount) → mount_at w.forest m.id ≡ Some m → family m.space ≡ false → pivoting m ≡ m
      unchanged m e off =
          pivot_cases w h i j p a (λ o. let y : Mount = record m { place = o } in y ≡ m) m.id m e (λ _ is. absurd (true≢false (sym (ap (λ (y : Mount). family y.space) is ∙ top_here) ∙ off)))
          (λ _ is. absurd (true≢false (sym (ap (λ (y : Mount). family y.space) is ∙ ap family a.same_space ∙ top_here) ∙ off))) (λ _ _. refl)

      -- nothing changes outside the family
      pub pivot_outside : IsSameOutside family w (with_pivot w i j p)
      unfolding with_pivot
      pivot_outside = record {
        skel = refl;
        mounts = λ k off.
            part-mapped (in_space k) pivoting w.forest
            (each_still (λ m. mount_at w.forest m.id ≡ Some m) (λ m. (in_space k (pivoting m) ≡ in_space k m) × (in_space k m ≡ true → pivoting m ≡ m))
            (λ m e. (refl, λ is. unchanged m e (ap family (eqb-true m.space k is) ∙ off))) w.forest (found-each id_of w.forest h.forest.rising));
        states = λ k m e off. refl;
      }

-- a walk begins at the root mount of its namespace
begins : (w : WorldView) (n : ℕ) (path : List (List ℕ)) (s : Place) → walk w.skel w.forest n path ≡ Ok s → (r : Mount) × (root_mount w.forest n ≡ Some r)
begins w n path s e = elim (root_mount w.forest n) as (λ o. root_mount w.forest n ≡ o → option_map_or (λ m. ok_or (walk_from w.skel w.forest (root_place m) path) NoEntry) o (Err NoNamespace) ≡ Ok s → (r : Mount) × (root_mount w.forest n ≡ Some r)) [
  | None ↦ λ at f. absurd (cc)
  | Some r ↦ λ at f. (r, at)
] refl e

-- what is exchanged where no refusal holds
pub may_pivot : (w : WorldView) (n : ℕ) (new old : List (List ℕ)) (s p : Place) → IsWellFormed w → walk w.skel w.forest n new ≡ Ok s → is_root_mount w s ≡ false → walk w.skel w.forest n old ≡ Ok p → is_root_place w p ≡ false
    → is_below w.forest s.mount p.mount ≡ true → MayPivot w s.mount (root_id w n) p
may_pivot w n new old s p h began placed ended off inside =
    let top = (walked w n h new s began).0 in
    let root = begins w n new s began in
    let passes = find_passes (is_root n) w.forest root.0 root.1 in
    record {
      top = top.0;
      top_there = top.1;
      placed = λ e. true≢false (sym (ap (λ (o : Option Mount). is_none (unwrap_or o unknown).place) top.1 ∙ ap is_none e) ∙ placed);
      root = root.0;
      root_there = ap (λ (o : Option Mount). mount_at w.forest (unwrap_or (option_map id_of o) 0)) root.1 ∙ find_row (is_root n) w.forest root.0 h.forest.rising root.1;
      unplaced = root_unplaced n root.0 passes;
      same_space = (root_here n root.0 passes).1 ∙ sym top.2;
      destination = destination w n old p h ended off;
      inside = inside;
    }

-- a pivot that is accepted
pub record IsPivot (n : ℕ) (w v : WorldView) : Type 0 where
  pub new : ℕ
  pub old : ℕ
  pub dest : Place
  pub made : with_pivot w new old dest ≡ v
  pub may : MayPivot w new old dest
  pub here : space_of w new ≡ n

pub pivots : (w : WorldView) (n : ℕ) (new old : List (List ℕ)) (v : WorldView) → IsWellFormed w → pivoted w n new old ≡ Ok v → IsPivot n w v
pivots w n new old v h e =
    let a = pivot_accepted w n new old v e in
    let s = path_end w n new in
    let p = path_end w n old in
    record { new = s.mount; old = root_id w n; dest = p; made = a.world; may = may_pivot w n new old s p h a.begun a.placed a.ended a.off_root a.inside; here = ended-inside w h n new (ap refusal_of a.begun) }

-- a pivot keeps a world well-formed and contained families of namespaces contained, and made in one it changes nothing outside it
pub pivoted_keeps : (w : WorldView) (n : ℕ) (new old : List (List ℕ)) (v : WorldView) → IsWellFormed w → pivoted w n new old ≡ Ok v → IsWellFormed v
pivoted_keeps w n new old v h e =
    let a = pivots w n new old v h e in
    subst IsWellFormed a.made (pivot_kept w a.new a.old a.dest h a.may)

pub pivoted_contained : (family : ℕ → Bool) (w : WorldView) (n : ℕ) (new old : List (List ℕ)) (v : WorldView) → IsWellFormed w → IsContained family w → pivoted w n new old ≡ Ok v → IsContained family v
pivoted_contained family w n new old v h c e =
    let a = pivots w n new old v h e in
    subst (IsContained family) a.made (pivot_contained w a.new a.old a.dest family c)

pub pivoted_outside : (family : ℕ → Bool) (w : WorldView) (n : ℕ) (new old : List (List ℕ)) (v : WorldView) → IsWellFormed w → IsContained family w → family n ≡ true → pivoted w n new old ≡ Ok v → IsSameOutside family w v
pivoted_outside family w n new old v h c here e =
    let a = pivots w n new old v h e in
    subst (IsSameOutside family w) a.made (pivot_outside w a.new a.old a.dest h a.may family (ap family a.here ∙ here))
