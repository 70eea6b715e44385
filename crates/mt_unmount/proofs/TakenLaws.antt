-- Mounts come to new places one after the other: where each stands then, and that each place is free in its turn. What
-- is made so is the world once the mounts are gone.
use Rattle.std.proofs.Common.{◌≡◌, ◌≢◌, ◌⊎◌, ℕ, Bool, true, false, cond, ◌==◌, eqb-true, eq-eqb, ltb, List, [], ◌∷◌, map, Option, Some, None, refl, sym, ap, ◌∙◌, inl, inr, arith, not, subst}
use Rattle.std.specs.List.{cons_option, filter_map}
use Rattle.std.specs.Option.{option_map, option_and_then}
use Rattle.std.proofs.lemmas.Bool.{true≢false, and_parts, not-true}
use Rattle.std.proofs.lemmas.Bool.Decides.{nat_tests}
use Rattle.std.proofs.lemmas.List.{map-id}
use Rattle.std.proofs.lemmas.Option.{option_and_then_some}
use Rattle.mt_skel.specs.Keyed.{rises, among}
use Rattle.mt_skel.proofs.ElementLaws.{In, in_map, find_in, in_filter, in_row}
use Rattle.mt_skel.proofs.KeyedLaws.{row_at-key}
use Rattle.mt_mounts.specs.declared.mount.Mount.{Mount}
use Rattle.mt_mounts.specs.declared.mount.Place.{Place}
use Rattle.mt_mounts.specs.Forest.{on, is_at, id_of, mount_at, root_place}
use Rattle.mt_mounts.specs.ForestView.{with_place}
use Rattle.mt_mounts.proofs.SlotLaws.{none_found}
use Rattle.mt_peers.specs.Loss.{left}
use Rattle.mt_peers.proofs.MemberLaws.{some-is, mapped, map-alike}
use Rattle.mt_propagate.specs.Carried.{placed, IsFree, staying}
use Rattle.mt_propagate.specs.World.{WorldView}
use Rattle.mt_propagate.specs.WellFormed.{IsWellFormed}
use Rattle.mt_propagate.proofs.RowLaws.{all_in}
use Rattle.mt_propagate.proofs.WalkLaws.{stands_at}
use Rattle.mt_propagate.proofs.BelowGroupLaws.{in-among, among-in}
use Rattle.mt_propagate.proofs.TreeLaws.{on-is}
use Rattle.mt_unmount.specs.Sliding.{CanGo, slid, once_gone}
use Rattle.mt_unmount.specs.Taking.{moved_from, relocation_past, resettled}
use Rattle.mt_unmount.proofs.StandingLaws.{spared, gap-below, found-on}
use Rattle.mt_unmount.proofs.SlideLaws.{StaysAt, slid-here, slid-there, slid-single}
use Rattle.mt_unmount.proofs.LeftTreeLaws.{moved}
use Rattle.mt_unmount.proofs.FoundLaws.{where_false, in_filter_map, in_filter_mapped}

-- the place of a mount that had this one, once mounts have come to these places
abbrev place_after : List (ℕ × Place) → ℕ → Option Place → Option Place
place_after [] i o = o
place_after (r ∷ rs) i o = place_after rs i (cond (i == r.0) (Some r.1) o)

placed-each : (rs : List (ℕ × Place)) (ms : List Mount) → placed rs ms ≡ map (λ (m : Mount). record m { place = place_after rs m.id m.place }) ms
placed-each [] ms = sym (map-id ms)
placed-each (r ∷ rs) ms =
    placed-each rs (with_place r.0 r.1 ms)
    ∙ mapped (λ (m : Mount). record m { place = place_after rs m.id m.place }) (λ (m : Mount). record m { place = cond (m.id == r.0) (Some r.1) m.place }) ms

-- it is the one that it comes to, or had before if it comes to none
place-end : (rs : List (ℕ × Place)) (i : ℕ) (o end : Option Place) → ((p : Place) → In (i, p) rs → Some p ≡ end) → (o ≡ end) ⊎ ((p : Place) × In (i, p) rs) → place_after rs i o ≡ end
place-end [] i o end one at = elim at [ inl still ↦ still | inr comes ↦ absurd comes.1 ]
place-end (r ∷ rs) i o end one at = go (i == r.0) refl (λ o. place-end rs i o end (λ p e. one p (inr e)))
  where
    go : (b : Bool) → (i == r.0) ≡ b → ((o : Option Place) → (o ≡ end) ⊎ ((p : Place) × In (i, p) rs) → place_after rs i o ≡ end) → place_after rs i (cond b (Some r.1) o) ≡ end
    go true is ih = ih (Some r.1) (inl (one r.1 (inl (ap (λ k. (k, r.1)) (sym (eqb-true i r.0 is))))))
    go false is ih = elim at [
      | inl still ↦ ih o (inl still)
      | inr comes ↦ elim comes.1 [
        | inl here ↦ absurd (true≢false (sym (eq-eqb i r.0 (ap (λ (s : ℕ × Place). s.0) (sym here))) ∙ is))
        | inr later ↦ ih o (inr (comes.0, later))
      ]
    ]

-- the places that numbers lead to are free one after the other, where different numbers lead to different places and no
-- mount stands at one of them
free-each : (f : ℕ → Option (ℕ × Place)) → ((k l : ℕ) (r s : ℕ × Place) → f k ≡ Some r → f l ≡ Some s → r.1 ≡ s.1 → k ≡ l) → (ks : List ℕ) (ms : List Mount) → rises (λ k. k) ks ≡ true
    → ((k : ℕ) (r : ℕ × Place) (m : Mount) → In k ks → f k ≡ Some r → In m ms → m.place ≢ Some r.1) → IsFree (filter_map f ks) ms
free-each f one [] ms up never = tt
free-each f one (k ∷ ks) ms up never = go (f k) refl (λ ms. free-each f one ks ms (and_parts _ _ up).1)
  where
    go : (o : Option (ℕ × Place)) → f k ≡ o → ((ms : List Mount) → ((l : ℕ) (s : ℕ × Place) (m : Mount) → In l ks → f l ≡ Some s → In m ms → m.place ≢ Some s.1) → IsFree (filter_map f ks) ms)
        → IsFree (cons_option o (filter_map f ks)) ms
    go None is ih = ih ms (λ l s m e. never l s m (inr e))
    go (Some r) is ih = (
      none_found (on ms r.1) (λ m e. let at = find_in (is_at r.1) ms m e in never k r m (inl refl) is at.0 (stands_at r.1 m at.1)),
      ih (with_place r.0 r.1 ms) (λ l s m e at there same.
          let x = in_map (λ (m : Mount). record m { place = cond (m.id == r.0) (Some r.1) m.place }) m ms there in
          elim (x.0.id == r.0) as (λ b. cond b (Some r.1) x.0.place ≡ Some s.1 → ⊥) [
            | true ↦ λ new. let apart = one k l r s is at (some-is r.1 s.1 new) in let low = all_in (λ j. ltb k j) ks l (and_parts _ _ up).0 e in absurd (grind (arith, nat_tests, apart, low))
            | false ↦ λ old. never l s x.0 (inr e) at x.1 old
          ] (ap (λ (m : Mount). m.place) x.2 ∙ same)),
    )

module _ (w : WorldView) (h : IsWellFormed w) (ids : List ℕ) (can : CanGo w (among ids)) where
  abbrev goes : ℕ → Bool
  goes = among ids

  -- the mounts that stay, and those of them that stand at the root of one that goes, with their new places
  abbrev rest : List Mount
  rest = staying ids w.forest

  abbrev past : ℕ → Option (ℕ × Place)
  past = relocation_past w goes

  -- a mount that stays, and stands at the root of the mount k: its ID and its new place
  record Moves (k : ℕ) (r : ℕ × Place) : Type 0 where
    mount : Mount
    place : Place
    at : StaysAt w h goes r.0 mount place
    from : place.mount ≡ k
    comes : slid w goes place ≡ r.1

  moves : (k : ℕ) (r : ℕ × Place) → past k ≡ Some r → Moves k r
  moves k r e = option_and_then_some (λ (x : Mount). moved_from w goes (root_place x)) (mount_at w.forest k) r e (λ x there found.
      option_and_then_some (λ (m : Mount). cond (goes m.id) None (Some (m.id, slid w goes (root_place x)))) (on w.forest (root_place x)) r found (λ m at given.
      let off = where_false (goes m.id) (Some (m.id, slid w goes (root_place x))) r given in
      let stands = found-on w h (root_place x) m at in
      subst (Moves k) (some-is (m.id, slid w goes (root_place x)) r off.1)
      (record { mount = m; place = root_place x; at = record { there = stands.0; stands = stands.1; stays = off.0 }; from = row_at-key id_of k w.forest x there; comes = refl })))

  -- each mount that stays and stands on one that goes is found so
  found-past : (m : Mount) (p : Place) → StaysAt w h goes m.id m p → goes p.mount ≡ true → past p.mount ≡ Some (m.id, slid w goes p)
  found-past m p at off =
      let gap = gap-below w h goes can m.id m p (spared w h goes can m.id at.stays) at.there at.stands off in
      ap (option_and_then (λ (r : Mount). moved_from w goes (root_place r))) gap.there ∙ ap (moved_from w goes) gap.at_root
      ∙ ap (option_and_then (λ (x : Mount). cond (goes x.id) None (Some (x.id, slid w goes p)))) (on-is w.forest h.forest.rising h.forest.apart m.id m p at.there at.stands)
      ∙ ap (λ b. cond b None (Some (m.id, slid w goes p))) at.stays

  -- what stays is there, at its place
  known : (m : Mount) → In m rest → mount_at w.forest m.id ≡ Some m
  known m e = in_row id_of w.forest m h.forest.rising (in_filter (λ m. not (goes m.id)) m w.forest e).0

  stays-at : (m : Mount) (p : Place) → In m rest → m.place ≡ Some p → StaysAt w h goes m.id m p
  stays-at m p e at = record { there = known m e; stands = at; stays = not-true (goes m.id) (in_filter (λ m. not (goes m.id)) m w.forest e).1 }

  -- no mount that stays stands at a new place before
  never-there : (k : ℕ) (r : ℕ × Place) (m : Mount) → In k ids → past k ≡ Some r → In m rest → m.place ≡ Some r.1 → ⊥
  never-there k r m here e at is =
      let a = moves k r e in
      let lands : goes r.1.mount ≡ false = ap (λ (p : Place). goes p.mount) (sym a.comes) ∙ (slid-there w h goes can a.at).1 in
      let same = slid-single w h goes can (stays-at m r.1 at is) a.at (slid-here w h goes r.1 lands ∙ sym a.comes) in
      true≢false (sym (among-in ids k here) ∙ ap goes (sym a.from) ∙ ap (λ (p : Place). goes p.mount) (sym same) ∙ lands)

  -- and each comes to the place that it slides to
  comes-to : (m : Mount) → In m rest → place_after (filter_map past ids) m.id m.place ≡ option_map (slid w goes) m.place
  comes-to m e =
      place-end (filter_map past ids) m.id m.place (option_map (slid w goes) m.place) (λ p given.
      let k = in_filter_map past (m.id, p) ids given in
      let a = moves k.0 (m.id, p) k.2 in
      let at : m.place ≡ Some a.place = ap (λ (m : Mount). m.place) (some-is m a.mount (sym (known m e) ∙ a.at.there)) ∙ a.at.stands in
      sym (ap (option_map (slid w goes)) at ∙ ap (λ (q : Place). Some q) a.comes)) (by m.place refl)
    where
      by : (o : Option Place) → m.place ≡ o → (o ≡ option_map (slid w goes) o) ⊎ ((p : Place) × In (m.id, p) (filter_map past ids))
      by None at = inl refl
      by (Some p) at = elim (goes p.mount) as (λ b. goes p.mount ≡ b → (Some p ≡ Some (slid w goes p)) ⊎ ((q : Place) × In (m.id, q) (filter_map past ids))) [
        | true ↦ λ on. inr (slid w goes p, in_filter_mapped past (m.id, slid w goes p) p.mount ids (in-among ids p.mount on) (found-past m p (stays-at m p e at) on))
        | false ↦ λ off. inl (ap (λ (q : Place). Some q) (sym (slid-here w h goes p off)))
      ] refl

  -- so they are placed as they slide, and each new place is free in its turn
  placed-all : rises (λ k. k) ids ≡ true → IsFree (filter_map past ids) rest × (resettled ids (filter_map past ids) w ≡ once_gone w goes)
  placed-all rising = (
    free-each past (λ k l r s e f same.
        let a = moves k r e in
        let b = moves l s f in
        let one = slid-single w h goes can a.at b.at (a.comes ∙ same ∙ sym b.comes) in
        sym a.from ∙ ap (λ (p : Place). p.mount) one ∙ b.from) ids rest rising never-there,
    ap (λ (l : List Mount). let v : WorldView = record w { forest = l; peering = left goes w.peering } in v)
        (placed-each (filter_map past ids) rest
        ∙ map-alike (λ (m : Mount). record m { place = place_after (filter_map past ids) m.id m.place }) (moved w goes) rest (λ m e i. record m { place = comes-to m e i })),
  )

-- the mounts of a list are taken away, and others placed, even where the world is read once more
pub replaced : (w : WorldView) → IsWellFormed w → (ids : List ℕ) → rises (λ k. k) ids ≡ true → CanGo w (among ids) → (v : WorldView) (relocations : List (ℕ × Place)) → v ≡ w → relocations ≡ filter_map (relocation_past w (among ids)) ids
    → IsFree relocations (staying ids v.forest) × (resettled ids relocations v ≡ once_gone w (among ids))
replaced w h ids rising can v relocations again same =
    rw (again, same) (placed-all w h ids can rising)
