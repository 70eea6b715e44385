-- The mounts of each namespace stay one tree where a whole namespace goes to a free place of another one.
use Rattle.std.proofs.Common.{◌≡◌, ◌≢◌, ◌⊎◌, ℕ, false, cond, ◌==◌, eq-eqb, List, Some, None, refl, sym, ap, ◌∙◌, subst, inl, inr, map, IsTrue}
use Rattle.std.proofs.lemmas.Bool.{cases_eq, ne_eqb, true≢false}
use Rattle.mt_skel.specs.Skeleton.{Skeleton, holds}
use Rattle.mt_skel.proofs.KeyedLaws.{row_at-key, rises-map}
use Rattle.mt_mounts.specs.declared.mount.Mount.{Mount}
use Rattle.mt_mounts.specs.declared.mount.Place.{Place}
use Rattle.mt_mounts.specs.Forest.{id_of, mount_at, on, is_at, is_below}
use Rattle.mt_mounts.specs.ForestView.{with_place}
use Rattle.mt_mounts.proofs.ForestLaws.{find_none}
use Rattle.mt_mounts.proofs.CycleLaws.{no_cycle, no_cycle_moved, rank_of, rank_falls}
use Rattle.mt_propagate.specs.WellFormed.{IsForest}
use Rattle.mt_propagate.proofs.AddedLaws.{stands_here}
use Rattle.mt_propagate.proofs.TreeLaws.{parent-from, parent-is}
use Rattle.mt_propagate.proofs.RowLaws.{row-mapped, mapped-row}

-- a mount once the mount i is at a place, and those of the namespace old are of the namespace new
abbrev pub attached : ℕ → Place → ℕ → ℕ → Mount → Mount
attached i dest old new x = record x { place = cond (x.id == i) (Some dest) x.place; space = cond (x.space == old) new x.space }

module _ (s : Skeleton) (ms : List Mount) (f : IsForest s ms) (i : ℕ) (m : Mount) (row : mount_at ms i ≡ Some m) (root : m.place ≡ None)
    (dest : Place) (q : Mount) (there : mount_at ms dest.mount ≡ Some q) (held : IsTrue (holds s q.root dest.dir)) (away : q.space ≢ m.space)
    (free : on ms dest ≡ None) (off : is_below ms i dest.mount ≡ false) where
  abbrev lift : Mount → Mount
  lift = attached i dest m.space q.space

  abbrev after : List Mount
  after = map lift ms

  from : (j : ℕ) (a : Mount) → mount_at after j ≡ Some a → (x : Mount) × (mount_at ms j ≡ Some x) × (a ≡ lift x)
  from j a e = mapped-row id_of lift (λ x. refl) ms j a e

  to : (j : ℕ) (x : Mount) → mount_at ms j ≡ Some x → mount_at after j ≡ Some (lift x)
  to j x e = row-mapped id_of lift (λ x. refl) ms j x e

  -- the mount itself, or one with the place that it had
  cases : (j : ℕ) (x : Mount) → mount_at ms j ≡ Some x → ((j ≡ i) × (x ≡ m) × ((lift x).place ≡ Some dest)) ⊎ ((lift x).place ≡ x.place)
  cases j x e =
      let k = row_at-key id_of j ms x e in
      elim (cases_eq x.id i) [
        | inl same ↦
            let v : Some x ≡ Some m = sym e ∙ ap (mount_at ms) (sym k ∙ same) ∙ row in
            inl (sym k ∙ same, let y : x ≡ m = cc in y, ap (λ b. cond b (Some dest) x.place) (eq-eqb x.id i same))
        | inr other ↦ inr (ap (λ b. cond b (Some dest) x.place) (ne_eqb x.id i other))
      ]

  -- the namespace of a mount of the tree, and of another one
  moved_space : (x : Mount) → x.space ≡ m.space → (lift x).space ≡ q.space
  moved_space x same = ap (λ b. cond b q.space x.space) (eq-eqb x.space m.space same)

  other_space : (x : Mount) → x.space ≢ m.space → (lift x).space ≡ x.space
  other_space x differs = ap (λ b. cond b q.space x.space) (ne_eqb x.space m.space differs)

  none_there : (j : ℕ) (x : Mount) → mount_at ms j ≡ Some x → x.place ≡ Some dest → ⊥
  none_there j x e p = true≢false (sym (stands_here x dest p) ∙ find_none (is_at dest) ms free j x e)

  -- a mount without place was a root mount of another namespace, and stays one
  rootless : (j : ℕ) (x : Mount) → mount_at ms j ≡ Some x → (lift x).place ≡ None → (x.place ≡ None) × (x.space ≢ m.space)
  rootless j x e n = elim (cases j x e) [
    | inl moved ↦ absurd (let v : Some dest ≡ None = sym moved.2 ∙ n in cc)
    | inr still ↦ (
      sym still ∙ n,
      λ same.
          let here : j ≡ i = f.one_root j i x m e row (sym still ∙ n) root same in
          let k = row_at-key id_of j ms x e in
          let v : Some dest ≡ None = ap (λ b. cond b (Some dest) x.place) (sym (eq-eqb x.id i (k ∙ here))) ∙ n in
          absurd (cc),
    )
  ]

  root_kept : (j : ℕ) (x : Mount) → mount_at ms j ≡ Some x → x.place ≡ None → x.space ≢ m.space → (lift x).place ≡ None
  root_kept j x e n differs = elim (cases j x e) [
    | inl moved ↦ absurd (differs (ap (λ (y : Mount). y.space) moved.1))
    | inr still ↦ still ∙ n
  ]

  -- each other namespace has its root mount
  root_of : (j : ℕ) (x : Mount) → mount_at ms j ≡ Some x → x.space ≢ m.space → (k : ℕ) × (r : Mount) × (mount_at after k ≡ Some r) × (r.place ≡ None) × (r.space ≡ x.space)
  root_of j x e differs =
      let t = f.rooted j x e in
      let other : t.1.space ≢ m.space = λ same. differs (sym t.4 ∙ same) in
      (t.0, lift t.1, to t.0 t.1 t.2, root_kept t.0 t.1 t.2 t.3 other, other_space t.1 other ∙ t.4)

  pub attached_forest : IsForest s after
  attached_forest = record {
    rising = rises-map id_of lift (λ x. refl) ms ∙ f.rising;
    placed = λ j a p e pa.
        let x = from j a e in
        let px : (lift x.0).place ≡ Some p = ap (λ (y : Mount). y.place) (sym x.2) ∙ pa in
        elim (cases j x.0 x.1) [
          | inl moved ↦
              let v : Some dest ≡ Some p = sym moved.2 ∙ px in
              let same : dest ≡ p = cc in
              subst (λ (p : Place). (u : Mount) × (mount_at after p.mount ≡ Some u) × (u.space ≡ a.space) × IsTrue (holds s u.root p.dir)) same
              (lift q, to dest.mount q there, other_space q away ∙ sym (moved_space x.0 (ap (λ (y : Mount). y.space) moved.1)) ∙ ap (λ (y : Mount). y.space) (sym x.2), held)
          | inr still ↦
              let u = f.placed j x.0 p x.1 (sym still ∙ px) in
              (lift u.0, to p.mount u.0 u.1, ap (λ k. cond (k == m.space) q.space k) u.2 ∙ ap (λ (y : Mount). y.space) (sym x.2), u.3)
        ];
    apart = λ j k a b p ea eb pa pb.
        let x = from j a ea in
        let y = from k b eb in
        let px : (lift x.0).place ≡ Some p = ap (λ (z : Mount). z.place) (sym x.2) ∙ pa in
        let py : (lift y.0).place ≡ Some p = ap (λ (z : Mount). z.place) (sym y.2) ∙ pb in
        elim (cases j x.0 x.1) [
          | inl mx ↦ elim (cases k y.0 y.1) [
            | inl my ↦ mx.0 ∙ sym my.0
            | inr sy ↦ absurd (none_there k y.0 y.1 (sym sy ∙ py ∙ sym px ∙ mx.2))
          ]
          | inr sx ↦ elim (cases k y.0 y.1) [
            | inl my ↦ absurd (none_there j x.0 x.1 (sym sx ∙ px ∙ sym py ∙ my.2))
            | inr sy ↦ f.apart j k x.0 y.0 p x.1 y.1 (sym sx ∙ px) (sym sy ∙ py)
          ]
        ];
    rooted = λ j a e.
        let x = from j a e in
        elim (cases_eq x.0.space m.space) [
          | inl same ↦ let r = root_of dest.mount q there away in (r.0, r.1, r.2, r.3, r.4 ∙ sym (moved_space x.0 same) ∙ ap (λ (y : Mount). y.space) (sym x.2))
          | inr other ↦ let r = root_of j x.0 x.1 other in (r.0, r.1, r.2, r.3, r.4 ∙ sym (other_space x.0 other) ∙ ap (λ (y : Mount). y.space) (sym x.2))
        ];
    one_root = λ j k a b ea eb na nb same.
        let x = from j a ea in
        let y = from k b eb in
        let nx = rootless j x.0 x.1 (ap (λ (z : Mount). z.place) (sym x.2) ∙ na) in
        let ny = rootless k y.0 y.1 (ap (λ (z : Mount). z.place) (sym y.2) ∙ nb) in
        f.one_root j k x.0 y.0 x.1 y.1 nx.0 ny.0
        (sym (other_space x.0 nx.1) ∙ ap (λ (z : Mount). z.space) (sym x.2) ∙ same ∙ ap (λ (z : Mount). z.space) y.2 ∙ other_space y.0 ny.1);
    no_cycle = no_cycle after (rank_of (with_place i dest ms)) (λ j k e.
        let r = parent-from after j k e in
        let x = from j r.0 r.2 in
        let placed : Mount = record x.0 { place = cond (x.0.id == i) (Some dest) x.0.place } in
        let at : mount_at (with_place i dest ms) j ≡ Some placed = row-mapped id_of (λ (x : Mount). record x { place = cond (x.id == i) (Some dest) x.place }) (λ x. refl) ms j x.0 x.1 in
        rank_falls (with_place i dest ms) (no_cycle_moved ms i dest f.no_cycle off) j k
        (parent-is (with_place i dest ms) j placed r.1 at (ap (λ (y : Mount). y.place) (sym x.2) ∙ r.3) ∙ ap (λ v. Some v) r.4));
  }
