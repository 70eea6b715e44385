-- Mounts that get another namespace, one after the other, and what that leaves as it was.
use Rattle.std.proofs.Common.{◌≡◌, ◌≢◌, ℕ, Bool, true, false, cond, not, ◌&&◌, ◌||◌, ◌==◌, eq-eqb, List, [], ◌∷◌, map, Option, Some, None, refl, sym, ap, ◌∙◌, subst, inl, inr}
use Rattle.std.specs.List.{list_any}
use Rattle.std.specs.Option.{option_map, ForSome}
use Rattle.std.proofs.lemmas.Bool.{cases_eq, ne_eqb}
use Rattle.std.proofs.lemmas.List.{map-id}
use Rattle.mt_skel.specs.Keyed.{put, rises, row_at, without}
use Rattle.mt_skel.proofs.KeyedLaws.{row_at-key, row_at-filter, row_at-map, rises-filter, rises-map, rises-put, same_rows, passing}
use Rattle.mt_skel.proofs.ElementLaws.{In, any_in}
use Rattle.mt_skel.proofs.MiddleLaws.{each_still}
use Rattle.mt_mounts.specs.declared.mount.Mount.{Mount}
use Rattle.mt_mounts.specs.declared.mount.Place.{Place}
use Rattle.mt_mounts.specs.Forest.{id_of, mount_at, on, is_at}
use Rattle.mt_mounts.specs.ForestView.{with_place, without_id}
use Rattle.mt_mounts.proofs.SlotLaws.{none_found, row_put_here, row_put_later, row_kept}
use Rattle.mt_mounts.proofs.ForestLaws.{find_row, find_passes}
use Rattle.mt_propagate.specs.WellFormed.{HasDistinctPlaces}
use Rattle.mt_propagate.specs.World.{WorldView}
use Rattle.mt_propagate.specs.Copies.{Source, is_whole}
use Rattle.mt_propagate.specs.Places.{rehomed}
use Rattle.mt_propagate.specs.Copied.{with_rehomed}
use Rattle.mt_propagate.specs.Carried.{IsFree, with_home, homed, CanLeave, AllCanLeave, CanRehome}
use Rattle.mt_propagate.proofs.ListedLaws.{map-map, rehomed-still}
use Rattle.mt_propagate.proofs.RelocationLaws.{map-each}
use Rattle.mt_propagate.proofs.RowLaws.{mapped-row, row-mapped, found-each, each_in}
use Rattle.mt_propagate.proofs.WalkLaws.{stands_at}

-- places are free whatever namespaces mounts have
module _ (g : ℕ → ℕ) where
  abbrev home : Mount → Mount
  home m = record m { space = g m.space }

  pub on-homed : (p : Place) (ms : List Mount) → on (map home ms) p ≡ option_map home (on ms p)
  on-homed p [] = refl
  on-homed p (m ∷ ms) = go (is_at p m) (on-homed p ms)
    where
      go : (b : Bool) → on (map home ms) p ≡ option_map home (on ms p) → cond b (Some (home m)) (on (map home ms) p) ≡ option_map home (cond b (Some m) (on ms p))
      go true ih = refl
      go false ih = ih

  none_back : (o : Option Mount) → option_map home o ≡ None → o ≡ None
  none_back None e = refl
  none_back (Some m) e = absurd (cc)

  moved-homed : (i : ℕ) (p : Place) (ms : List Mount) → with_place i p (map home ms) ≡ map home (with_place i p ms)
  moved-homed i p ms =
      let move : Mount → Mount = λ m. record m { place = cond (m.id == i) (Some p) m.place } in
      map-map home move (λ m. record m { place = cond (m.id == i) (Some p) m.place; space = g m.space }) (λ m. refl) ms
      ∙ sym (map-map move home (λ m. record m { place = cond (m.id == i) (Some p) m.place; space = g m.space }) (λ m. refl) ms)

  pub free-homed : (rs : List (ℕ × Place)) (ms : List Mount) → IsFree rs (map home ms) → IsFree rs ms
  free-homed [] ms h = tt
  free-homed (r ∷ rs) ms h = (
    none_back (on ms r.1) (sym (on-homed r.1 ms) ∙ h.0),
    free-homed rs (with_place r.0 r.1 ms) (subst (λ (l : List Mount). IsFree rs l) (moved-homed r.0 r.1 ms) h.1),
  )

-- one mount gets another namespace
module _ (i n : ℕ) (ms : List Mount) where
  abbrev change : Mount → Mount
  change m = record m { space = cond (m.id == i) n m.space }

  change-other : (m : Mount) → m.id ≢ i → change m ≡ m
  change-other m off = ap (λ b. record m { space = cond b n m.space }) (ne_eqb m.id i off)

  pub none-homed : rises id_of ms ≡ true → mount_at ms i ≡ None → with_home i n ms ≡ ms
  none-homed rising none =
      map-each change (λ m. m) ms
      (each_still (λ m. row_at id_of m.id ms ≡ Some m) (λ m. change m ≡ m) (λ m row. change-other m (λ same. let v : None ≡ Some m = sym none ∙ ap (mount_at ms) (sym same) ∙ row in absurd (cc))) ms (found-each id_of ms rising))
      ∙ map-id ms

  module _ (c : CanLeave i ms) (m : Mount) (row : mount_at ms i ≡ Some m) where
    its_id : m.id ≡ i
    its_id = row_at-key id_of i ms m row

    pub absent-then : mount_at (without_id i ms) m.id ≡ None
    absent-then = none_found _ (λ x e. (row_kept ms i m.id x c.rising e).1 (row_at-key id_of m.id (without_id i ms) x e ∙ its_id))

    pub free-then : ForSome m.place (λ p. on (without_id i ms) p ≡ None)
    free-then p e = none_found _ (λ x f.
        let rising = rises-filter id_of (λ (m : Mount). not (m.id == i)) ms c.rising in
        let there = row_kept ms i x.id x c.rising (find_row (is_at p) (without_id i ms) x rising f) in
        there.1 (c.apart x.id i x m p there.0 row (stands_at p x (find_passes (is_at p) (without_id i ms) x f)) e))

    other-row : (q : ℕ) → q ≢ i → (o : Option Mount) → mount_at ms q ≡ o → passing (λ (m : Mount). not (m.id == i)) o ≡ option_map change o
    other-row q off None e = refl
    other-row q off (Some x) e =
        let differs : x.id ≢ i = λ same. off (sym (row_at-key id_of q ms x e) ∙ same) in
        ap (λ b. cond (not b) (Some x) None) (ne_eqb x.id i differs) ∙ ap (λ v. Some v) (sym (change-other x differs))

    pub put-homed : put id_of (record m { space = n }) (without_id i ms) ≡ with_home i n ms
    put-homed =
        let new : Mount = record m { space = n } in
        let left = rises-filter id_of (λ (m : Mount). not (m.id == i)) ms c.rising in
        same_rows id_of (put id_of new (without_id i ms)) (with_home i n ms)
        (rises-put id_of new (without_id i ms) left) (rises-map id_of change (λ x. refl) ms ∙ c.rising)
        (λ q. elim (cases_eq q i) [
          | inl same ↦
              row_put_here (without_id i ms) new q (its_id ∙ sym same)
              ∙ ap (λ b. Some (record m { space = cond b n m.space })) (sym (eq-eqb m.id i its_id))
              ∙ sym (row-mapped id_of change (λ x. refl) ms q m (ap (mount_at ms) same ∙ row))
          | inr off ↦
              row_put_later (without_id i ms) new q (λ same. off (sym same ∙ its_id))
              ∙ row_at-filter id_of (λ (m : Mount). not (m.id == i)) q ms c.rising
              ∙ other-row q off (mount_at ms q) refl
              ∙ sym (row_at-map id_of change (λ x. refl) q ms)
        ])

-- all of these, where none is a root mount
pub all-leave : (n : ℕ) (xs ms : List Mount) → rises id_of ms ≡ true → HasDistinctPlaces ms → ((x : Mount) → In x xs → (m : Mount) → mount_at ms x.id ≡ Some m → m.place ≢ None) → AllCanLeave n xs ms
all-leave n [] ms rising apart placed = tt
all-leave n (x ∷ xs) ms rising apart placed =
    let change : Mount → Mount = λ m. record m { space = cond (m.id == x.id) n m.space } in (
      record { rising = rising; apart = apart; placed = placed x (inl refl) },
      all-leave n xs (with_home x.id n ms) (rises-map id_of change (λ m. refl) ms ∙ rising)
          (λ i j a b p ea eb pa pb.
          let u = mapped-row id_of change (λ m. refl) ms i a ea in
          let v = mapped-row id_of change (λ m. refl) ms j b eb in
          apart i j u.0 v.0 p u.1 v.1 (ap (λ (m : Mount). m.place) (sym u.2) ∙ pa) (ap (λ (m : Mount). m.place) (sym v.2) ∙ pb))
          (λ y e m row none.
          let u = mapped-row id_of change (λ m. refl) ms y.id m row in
          placed y (inr e) u.0 u.1 (ap (λ (m : Mount). m.place) (sym u.2) ∙ none)),
    )

-- that is one change of all mounts
module _ (n : ℕ) where
  abbrev change_all : List Mount → Mount → Mount
  change_all xs m = record m { space = cond (list_any (λ (x : Mount). x.id == m.id) xs) n m.space }

  turned : (a b : ℕ) → (a == b) ≡ (b == a)
  turned a b = elim (cases_eq a b) [
    | inl same ↦ eq-eqb a b same ∙ sym (eq-eqb b a (sym same))
    | inr off ↦ ne_eqb a b off ∙ sym (ne_eqb b a (λ same. off (sym same)))
  ]

  one-more : (x : Mount) (xs : List Mount) (m : Mount) → change_all xs (record m { space = cond (m.id == x.id) n m.space }) ≡ change_all (x ∷ xs) m
  one-more x xs m = ap (λ b. record m { space = cond (list_any (λ (x : Mount). x.id == m.id) xs) n (cond b n m.space) }) (turned m.id x.id) ∙ by (x.id == m.id) (list_any (λ (x : Mount). x.id == m.id) xs)
    where
      by : (b c : Bool) → (let a : Mount = record m { space = cond c n (cond b n m.space) } in a) ≡ record m { space = cond (b || c) n m.space }
      by true true = refl
      by true false = refl
      by false true = refl
      by false false = refl

  homed-all : (xs ms : List Mount) → homed n xs ms ≡ map (change_all xs) ms
  homed-all [] ms = sym (map-id ms)
  homed-all (x ∷ xs) ms =
      homed-all xs (with_home x.id n ms)
      ∙ map-map (λ (m : Mount). record m { space = cond (m.id == x.id) n m.space }) (change_all xs) (change_all (x ∷ xs)) (one-more x xs) ms

  -- and for a whole tree that of its namespace
  module _ (src : Source) (ms : List Mount) (c : CanRehome src ms) (whole : is_whole src ≡ true) where
    pub tree-homed : homed n src.mounts ms ≡ map (λ (m : Mount). record m { space = cond (is_whole src && (m.space == src.top.space)) n m.space }) ms
    tree-homed =
        homed-all src.mounts ms
        ∙ map-each (change_all src.mounts) (λ (m : Mount). record m { space = cond (is_whole src && (m.space == src.top.space)) n m.space }) ms
        (each_still (λ m. row_at id_of m.id ms ≡ Some m) (λ m. change_all src.mounts m ≡ record m { space = cond (is_whole src && (m.space == src.top.space)) n m.space })
        (λ m row. (λ i. record m { space = cond ((c.members m.id m row ∙ ap (λ b. b && (m.space == src.top.space)) (sym whole)) i) n m.space })) ms (found-each id_of ms c.rising))

    pub tree-leaves : AllCanLeave n src.mounts ms
    tree-leaves =
        all-leave n src.mounts ms c.rising c.apart
        (λ x e m row. c.placed x.id m row (sym (c.members x.id m row) ∙ any_in (λ (y : Mount). y.id == x.id) x src.mounts e (eq-eqb x.id x.id refl)))

-- where no whole tree moves, nothing changes
pub none-rehomed : (w : WorldView) (src : Source) (dest : Place) → is_whole src ≡ false → with_rehomed w src dest ≡ w
none-rehomed w src dest still =
    let stays : map (rehomed w src dest) w.forest ≡ w.forest =
    map-each (rehomed w src dest) (λ m. m) w.forest (each_in (λ m. rehomed w src dest m ≡ m) w.forest (λ m e. rehomed-still w src dest still m)) ∙ map-id w.forest in
    λ i. record w { forest = stays i; trees = cond (still i) (without (λ k. k == src.top.space) w.trees) w.trees }
