-- Copies of mounts that are one tree, in a namespace of their own: their numbers, where they are found, and that the mounts of each
-- namespace stay one tree.
use Rattle.std.proofs.Common.{◌≡◌, ◌⊎◌, ℕ, ◌+◌, ◌<◌, ◌≤◌, true, eqb, List, ◌++◌, map, length, Option, Some, None, refl, sym, ap, ◌∙◌, inl, inr, arith, length-append}
use Rattle.std.specs.Prelude.{unwrap_or, IsTrue}
use Rattle.std.specs.List.{list_any, range_with_len}
use Rattle.std.specs.Option.{option_map, option_and_then}
use Rattle.std.proofs.lemmas.Cmp.{nat_eq_equiv}
use Rattle.std.proofs.lemmas.List.{map-append, length-map}
use Rattle.mt_skel.specs.Keyed.{rises}
use Rattle.mt_skel.proofs.KeyedLaws.{numbered-map}
use Rattle.mt_skel.specs.Chain.{ends}
use Rattle.mt_skel.specs.Skeleton.{directory, holds}
use Rattle.mt_skel.proofs.SortedLaws.{rises-keys}
use Rattle.mt_mounts.specs.declared.mount.Mount.{Mount}
use Rattle.mt_mounts.specs.declared.mount.Place.{Place}
use Rattle.mt_mounts.specs.Forest.{id_of, mount_at, parent}
use Rattle.mt_mounts.proofs.SlotLaws.{none_found}
use Rattle.mt_peers.proofs.MakingLaws.{place-lt, place-same}
use Rattle.mt_propagate.specs.World.{WorldView}
use Rattle.mt_propagate.specs.WellFormed.{HasDistinctPlaces, IsWellFormed, IsForest, fs_at}
use Rattle.mt_propagate.proofs.ListedLaws.{map-map, below-all, climbs-append}
use Rattle.mt_propagate.proofs.RowLaws.{among-keys, length-keys, distinct-keys, row-renamed, renamed-row, appended-row, row-first, row-second}
use Rattle.mt_propagate.proofs.AddedLaws.{parent_id}
use Rattle.mt_propagate.proofs.NumberLaws.{climbs}
use Rattle.mt_propagate.proofs.TreeLaws.{parent-from, ends-like, ends-more, ends-none}
use Rattle.mt_bind.specs.Copying.{copy_number, copy_of}

-- each of two things that are one way or another
pub each_way : {A B C D R : Type 0} → A ⊎ B → C ⊎ D → (A → C → R) → (A → D → R) → (B → C → R) → (B → D → R) → R
each_way x y f g k l = elim x [ inl a ↦ elim y [ inl c ↦ f a c | inr d ↦ g a d ] | inr b ↦ elim y [ inl c ↦ k b c | inr d ↦ l b d ] ]

-- mounts that are one tree, the top of which stands nowhere, or none
pub record AreSources (w : WorldView) (ms : List Mount) : Type 0 where
  pub rising : rises id_of ms ≡ true
  pub rooted : (i : ℕ) (m : Mount) → mount_at ms i ≡ Some m → (r : Mount) × (mount_at ms r.id ≡ Some r) × (r.place ≡ None)
  pub one_root : (i j : ℕ) (m n : Mount) → mount_at ms i ≡ Some m → mount_at ms j ≡ Some n → m.place ≡ None → n.place ≡ None → i ≡ j
  pub placed : (i : ℕ) (m : Mount) (p : Place) → mount_at ms i ≡ Some m → m.place ≡ Some p → (q : Mount) × (mount_at ms p.mount ≡ Some q) × IsTrue (holds w.skel q.root p.dir)
  pub apart : HasDistinctPlaces ms
  pub no_cycle : (i : ℕ) → IsTrue (ends (parent ms) (length ms) i)

-- the mounts are there, and show directories that are there, of the filesystems that they show there
pub record AreShown (w : WorldView) (ms : List Mount) : Type 0 where
  pub shows : (i : ℕ) (m : Mount) → mount_at ms i ≡ Some m → (x : Mount) × (mount_at w.forest i ≡ Some x) × ((directory w.skel m.root).fs ≡ fs_at w i)
  pub low : (i : ℕ) (m : Mount) → mount_at ms i ≡ Some m → m.root < length w.skel.directories

module _ (w : WorldView) (h : IsWellFormed w) (ms : List Mount) (a : AreSources w ms) where
  abbrev pub ids : List ℕ
  ids = map id_of ms

  abbrev pub number : ℕ → ℕ
  number i = copy_number w (map id_of ms) i

  abbrev pub place : Place → Place
  place q = record { mount = copy_number w (map id_of ms) q.mount; dir = q.dir }

  abbrev pub copy : Mount → Mount
  copy m = copy_of w (map id_of ms) m

  abbrev pub copies : List Mount
  copies = map (copy_of w (map id_of ms)) ms

  pub among : (i : ℕ) (x : Mount) → mount_at ms i ≡ Some x → list_any (eqb i) ids ≡ true
  among i x e = among-keys id_of i ms x e

  -- numbers
  pub copy-high : (i : ℕ) → w.next_mount ≤ number i
  copy-high i = omega arith

  pub copy-low : (i : ℕ) → list_any (eqb i) ids ≡ true → number i < w.next_mount + length ms
  copy-low i k = let l = place-lt i ids k in let n = length-keys id_of ms in omega arith

  copy-single : (i j : ℕ) → list_any (eqb i) ids ≡ true → number i ≡ number j → i ≡ j
  copy-single i j k e = place-same i j ids k (omega (arith, e))

  copy-free : (i : ℕ) → mount_at w.forest (number i) ≡ None
  copy-free i = none_found _ (λ x e. let b = h.below (number i) x e in let high = copy-high i in absurd (omega (arith, b.1)))

  copy-ids : map id_of copies ≡ range_with_len w.next_mount (length ms)
  copy-ids =
      map-map copy id_of (λ (m : Mount). number m.id) (λ m. refl) ms
      ∙ sym (map-map id_of number (λ (m : Mount). number m.id) (λ m. refl) ms)
      ∙ numbered-map eqb nat_eq_equiv w.next_mount ids (distinct-keys id_of ms a.rising)
      ∙ ap (range_with_len w.next_mount) (length-keys id_of ms)

  -- the forest with the copies
  abbrev pub grown : List Mount
  grown = w.forest ++ map (copy_of w (map id_of ms)) ms

  pub old-in : (i : ℕ) (x : Mount) → mount_at w.forest i ≡ Some x → mount_at grown i ≡ Some x
  old-in i x e = row-first id_of w.forest copies i x e

  pub copy-in : (i : ℕ) (x : Mount) → mount_at ms i ≡ Some x → mount_at grown (number i) ≡ Some (copy x)
  copy-in i x e =
      row-second id_of w.forest copies (number i) (copy x) (copy-free i)
      (row-renamed id_of id_of copy number (λ m. refl) i (λ j. copy-single i j (among i x e)) ms ∙ ap (option_map copy) e)

  -- a mount of which y is the copy i
  pub record IsCopy (i : ℕ) (y : Mount) : Type 0 where
    pub source : Mount
    pub there : mount_at ms source.id ≡ Some source
    pub made : y ≡ copy source
    pub number : i ≡ copy_number w (map id_of ms) source.id

  pub row-of : (i : ℕ) (y : Mount) → mount_at grown i ≡ Some y → (mount_at w.forest i ≡ Some y) ⊎ IsCopy i y
  row-of i y e = elim (appended-row id_of w.forest copies i y e) [
    | inl old ↦ inl old
    | inr new ↦ let r = renamed-row id_of id_of copy number (λ m. refl) ms a.rising i y new in inr (record { source = r.0; there = r.1; made = r.2; number = r.3 })
  ]

  -- a copy's place is on the copy of its source's parent
  placed-copy : (i : ℕ) (y : Mount) (c : IsCopy i y) (p : Place) → y.place ≡ Some p → (q : Place) × (c.source.place ≡ Some q) × (p.mount ≡ number q.mount) × (p.dir ≡ q.dir)
  placed-copy i y c p e = go c.source.place refl (ap (λ (m : Mount). m.place) (sym c.made) ∙ e)
    where
      go : (o : Option Place) → c.source.place ≡ o → option_map place o ≡ Some p → (q : Place) × (c.source.place ≡ Some q) × (p.mount ≡ number q.mount) × (p.dir ≡ q.dir)
      go None at e = absurd (let v : None ≡ Some p = e in cc)
      go (Some q) at e = (q, at, ap (λ (o : Option Place). (unwrap_or o p).mount) (sym e), ap (λ (o : Option Place). (unwrap_or o p).dir) (sym e))

  unplaced-copy : (i : ℕ) (y : Mount) (c : IsCopy i y) → y.place ≡ None → c.source.place ≡ None
  unplaced-copy i y c e = let made = ap (λ (m : Mount). m.place) c.made in grind arith

  grown-ids : map id_of grown ≡ map id_of w.forest ++ map id_of copies
  grown-ids = map-append id_of w.forest copies

  grown-rises : rises id_of grown ≡ true
  grown-rises =
      sym (rises-keys id_of grown) ∙ ap climbs (grown-ids ∙ ap (λ l. map id_of w.forest ++ l) copy-ids)
      ∙ climbs-append w.next_mount (length ms) (map id_of w.forest) (rises-keys id_of w.forest ∙ h.forest.rising)
      (below-all id_of w.next_mount w.forest h.forest.rising (λ i x e. let b = h.below i x e in b.1))

  old-placed : (i : ℕ) (m : Mount) (p : Place) → mount_at w.forest i ≡ Some m → m.place ≡ Some p → p.mount < w.next_mount
  old-placed i m p e at = let q = h.forest.placed i m p e at in let b = h.below p.mount q.0 q.1 in b.1

  -- what stands on an old mount is no copy
  mixed-places : (i j : ℕ) (x b : Mount) (p : Place) → mount_at w.forest i ≡ Some x → IsCopy j b → x.place ≡ Some p → b.place ≡ Some p → ⊥
  mixed-places i j x b p e c px pb =
      let low = old-placed i x p e px in
      let q = placed-copy j b c p pb in
      let high = copy-high q.0.mount in
      omega (arith, q.2)

  -- and none is the root of an old namespace
  mixed-spaces : (i j : ℕ) (x b : Mount) → mount_at w.forest i ≡ Some x → IsCopy j b → x.space ≡ b.space → ⊥
  mixed-spaces i j x b e c same =
      let low = h.below i x e in
      let is : b.space ≡ w.next_space = ap (λ (m : Mount). m.space) c.made in
      omega (arith, low.3, same, is)

  same-copy : (i j : ℕ) (x b : Mount) (c : IsCopy i x) (d : IsCopy j b) → c.source.id ≡ d.source.id → i ≡ j
  same-copy i j x b c d e = c.number ∙ ap number e ∙ sym d.number

  copy-places : (i j : ℕ) (x b : Mount) (p : Place) (c : IsCopy i x) (d : IsCopy j b) → x.place ≡ Some p → b.place ≡ Some p → i ≡ j
  copy-places i j x b p c d px pb =
      let qx = placed-copy i x c p px in
      let qb = placed-copy j b d p pb in
      let on = a.placed c.source.id c.source qx.0 c.there qx.1 in
      let mounts : qx.0.mount ≡ qb.0.mount = copy-single qx.0.mount qb.0.mount (among qx.0.mount on.0 on.1) (sym qx.2 ∙ qb.2) in
      let dirs : qx.0.dir ≡ qb.0.dir = sym qx.3 ∙ qb.3 in
      let same : qx.0 ≡ qb.0 = λ i. record { mount = mounts i; dir = dirs i } in
      same-copy i j x b c d (a.apart c.source.id d.source.id c.source d.source qb.0 c.there d.there (qx.1 ∙ ap (λ q. Some q) same) qb.1)

  -- the way up of a copy goes through the copies of that of its source
  copy_ends : (x : ℕ) (m : Mount) → mount_at ms x ≡ Some m → ends (parent grown) (length grown) (number x) ≡ true
  copy_ends x m there =
      ends-more (parent grown) (length ms) (length grown) (number x) (omega (arith, length-append w.forest copies, length-copies))
      (ends-like (parent ms) (parent grown) number (λ x. (m : Mount) × (mount_at ms x ≡ Some m))
      (λ x m e. up x m.0 m.1 ∙ ap (option_map number) e)
      (λ x y m e.
      let p = parent-from ms x y e in
      let q = a.placed x p.0 p.1 p.2 p.3 in
      (up x m.0 m.1 ∙ ap (option_map number) e, (q.0, ap (mount_at ms) (sym p.4) ∙ q.1)))
      (length ms) x (m, there) (a.no_cycle x))
    where
      length-copies : length (map (copy_of w (map id_of ms)) ms) ≡ length ms
      length-copies = length-map ms (copy_of w (map id_of ms))

      up : (x : ℕ) (m : Mount) → mount_at ms x ≡ Some m → parent grown (number x) ≡ option_map number (parent ms x)
      up x m there = rw (copy-in x m there, there) (grind arith)

  old_ends : (x : ℕ) (m : Mount) → mount_at w.forest x ≡ Some m → ends (parent grown) (length grown) x ≡ true
  old_ends x m there =
      ends-more (parent grown) (length w.forest) (length grown) x (omega (arith, length-append w.forest copies))
      (ends-like (parent w.forest) (parent grown) (λ x. x) (λ x. (m : Mount) × (mount_at w.forest x ≡ Some m))
      (λ x m e. up x m.0 m.1 ∙ e)
      (λ x y m e.
      let p = parent-from w.forest x y e in
      let q = h.forest.placed x p.0 p.1 p.2 p.3 in
      (up x m.0 m.1 ∙ e, (q.0, ap (mount_at w.forest) (sym p.4) ∙ q.1)))
      (length w.forest) x (m, there) (h.forest.no_cycle x))
    where
      up : (x : ℕ) (m : Mount) → mount_at w.forest x ≡ Some m → parent grown x ≡ parent w.forest x
      up x m there = rw (old-in x m there, there) refl

  all_end : (i : ℕ) → ends (parent grown) (length grown) i ≡ true
  all_end i = elim (mount_at grown i) as (λ o. mount_at grown i ≡ o → ends (parent grown) (length grown) i ≡ true) [
    | None ↦ λ e. ends-none (parent grown) (length grown) i (ap (option_and_then parent_id) e)
    | Some y ↦ λ e. elim (row-of i y e) [
      | inl old ↦ old_ends i y old
      | inr c ↦ rw c.number (copy_ends c.source.id c.source c.there)
    ]
  ] refl

  pub grown-forest : IsForest w.skel grown
  grown-forest = record {
    rising = grown-rises;
    placed = λ i m p e at. elim (row-of i m e) [
      | inl old ↦ let q = h.forest.placed i m p old at in (q.0, old-in p.mount q.0 q.1, q.2, q.3)
      | inr c ↦
          let p_0 = placed-copy i m c p at in
          let q = a.placed c.source.id c.source p_0.0 c.there p_0.1 in (
            copy q.0,
            ap (mount_at grown) p_0.2 ∙ copy-in p_0.0.mount q.0 q.1,
            ap (λ (m : Mount). m.space) (sym c.made),
            ap (holds w.skel q.0.root) p_0.3 ∙ q.2,
          )
    ];
    apart = λ i j x b p ex eb px pb. each_way (row-of i x ex) (row-of j b eb)
        (λ ox ob. h.forest.apart i j x b p ox ob px pb)
        (λ ox cb. absurd (mixed-places i j x b p ox cb px pb))
        (λ cx ob. absurd (mixed-places j i b x p ob cx pb px))
        (λ cx cb. copy-places i j x b p cx cb px pb);
    rooted = λ i m e. elim (row-of i m e) [
      | inl old ↦ let r = h.forest.rooted i m old in (r.0, r.1, old-in r.0 r.1 r.2, r.3, r.4)
      | inr c ↦
          let r = a.rooted c.source.id c.source c.there in (
            number r.0.id,
            copy r.0,
            copy-in r.0.id r.0 r.1,
            ap (option_map place) r.2,
            ap (λ (m : Mount). m.space) (sym c.made),
          )
    ];
    one_root = λ i j x b ex eb px pb same. each_way (row-of i x ex) (row-of j b eb)
        (λ ox ob. h.forest.one_root i j x b ox ob px pb same)
        (λ ox cb. absurd (mixed-spaces i j x b ox cb same))
        (λ cx ob. absurd (mixed-spaces j i b x ob cx (sym same)))
        (λ cx cb. same-copy i j x b cx cb (a.one_root cx.source.id cb.source.id cx.source cb.source cx.there cb.there (unplaced-copy i x cx px) (unplaced-copy j b cb pb)));
    no_cycle = all_end;
  }
