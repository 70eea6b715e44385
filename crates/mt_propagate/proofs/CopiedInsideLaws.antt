-- Where copies of a source tree come to stand, a contained family of namespaces stays contained, and what happens in it stays there.
use Rattle.std.proofs.Common.{◌≡◌, ◌⊎◌, ℕ, ◌<◌, ◌≤◌, true, false, cond, not, ◌==◌, ◌&&◌, ◌||◌, eqb, eqb-true, eq-eqb, List, [], ◌++◌, map, Option, Some, None, refl, sym, ap, ◌∙◌, subst, inl, inr, append-nil}
use Rattle.std.specs.Prelude.{Bool, unwrap_or, is_none, is_some}
use Rattle.std.specs.List.{filter, find}
use Rattle.std.specs.Option.{option_map}
use Rattle.std.proofs.lemmas.Bool.{cases_eq, ne_eqb, true≢false}
use Rattle.std.proofs.lemmas.List.Elements.{filter-append}
use Rattle.mt_skel.specs.Keyed.{rises}
use Rattle.mt_skel.proofs.KeyedLaws.{row_at-key}
use Rattle.mt_skel.proofs.ElementLaws.{In, any_in, in_row, find_in}
use Rattle.mt_skel.proofs.MiddleLaws.{and_first, and_second, each_still}
use Rattle.mt_mounts.specs.declared.mount.Mount.{Mount}
use Rattle.mt_mounts.specs.declared.mount.Place.{Place}
use Rattle.mt_mounts.specs.Forest.{id_of, mount_at, is_at, in_space}
use Rattle.mt_peers.specs.declared.state.State.{State}
use Rattle.mt_peers.specs.Peers.{Peer, mount_of, state_at}
use Rattle.mt_peers.specs.Masters.{reaches, groups_up}
use Rattle.mt_peers.proofs.MemberLaws.{named, some-is}
use Rattle.mt_peers.proofs.ReachLaws.{reaches-self}
use Rattle.mt_propagate.specs.World.{WorldView, state_of, group_of, space_of, private}
use Rattle.mt_propagate.specs.WellFormed.{IsWellFormed}
use Rattle.mt_propagate.specs.Receivers.{targets}
use Rattle.mt_propagate.specs.Copies.{Source, MountCopy, is_whole, destinations, all_copies, new_copies, copy_id}
use Rattle.mt_propagate.specs.Groups.{GroupKey, key_of, home, key_group, is_new_key, master_key, copy_state}
use Rattle.mt_propagate.specs.Places.{copied_mount, new_mounts, arranged}
use Rattle.mt_propagate.specs.Copied.{copied, regrouped, is_moved}
use Rattle.mt_propagate.specs.Sound.{IsSource, IsDestination}
use Rattle.mt_propagate.specs.Contained.{IsContained, IsSameOutside, CrossesNoBorder, IsFromInside, is_linked, may_cross}
use Rattle.mt_propagate.proofs.ContainLaws.{receiver_of, target_received, target_contained}
use Rattle.mt_propagate.proofs.ContainedLaws.{master-is, contained}
use Rattle.mt_propagate.proofs.ListedLaws.{relocated-same, arranged-same, arranged-here, arranged-still, arranged-away, regrouped-mount}
use Rattle.mt_mounts.proofs.SlotLaws.{none_found}
use Rattle.mt_propagate.proofs.WalkLaws.{stands_at}
use Rattle.mt_propagate.proofs.JoinLaws.{both_kinds, state_row}
use Rattle.mt_propagate.proofs.RowLaws.{in_pairs, row-mapped, row-first, found-each, part-mapped, none-picked}
use Rattle.mt_propagate.proofs.ShownLaws.{mount-state, state-group}
use Rattle.mt_propagate.proofs.KeyLaws.{group_known, master_known, old_low, key_at, copy_in, state-unshared, state-shared, at_home, nearest, above_from, master_by_cases, key_in, new_number, old_key}
use Rattle.mt_propagate.proofs.CopyRowLaws.{state_at_mount, space_is, whole_moves, in_mounts, new_target, num_here, each_copy, moving, kept, made}
use Rattle.mt_propagate.proofs.MovedLaws.{peer_rows, source_kept}

module _ (w : WorldView) (h : IsWellFormed w) (src : Source) (dest : Place) (s : IsSource w src dest) (d : IsDestination w dest) (family : ℕ → Bool) (near : CrossesNoBorder family w src dest) where
  -- of two namespaces on one side of the border, one is inside where the other is
  over : (a b : ℕ) → family a ≡ family b → family a ≡ true → family b ≡ true
  over a b side q = sym side ∙ q

  -- what has a group or a master crosses no border
  grouped_stays : (i g : ℕ) → group_of w i ≡ Some g → may_cross w src i ≡ false
  grouped_stays i g is = by (is_whole src) (group_of w i) is
    where
      by : (b : Bool) (o : Option ℕ) → o ≡ Some g → (b && not (is_some o || is_some (state_of w i).master)) ≡ false
      by true (Some x) e = refl
      by false o e = refl
      by true None e = absurd (cc)

  slave_stays : (i g : ℕ) → (state_of w i).master ≡ Some g → may_cross w src i ≡ false
  slave_stays i g is = by (is_whole src) (is_some (group_of w i)) (state_of w i).master is
    where
      by : (b p : Bool) (o : Option ℕ) → o ≡ Some g → (b && not (p || is_some o)) ≡ false
      by true false (Some x) e = refl
      by false p o e = refl
      by true true o e = refl
      by true false None e = absurd (cc)

  -- nor does a tree that is not whole
  part_stays : (i : ℕ) → is_whole src ≡ false → may_cross w src i ≡ false
  part_stays i part = ap (λ b. b && not (is_linked w i)) part

  abbrev mounts : List Mount
  mounts = map (arranged w src dest) w.forest ++ new_mounts w src dest

  abbrev new_peer : MountCopy → Peer
  new_peer c = record { mount = copy_id w src dest c.target c.source; state = copy_state w src dest c }

  abbrev peers : List Peer
  peers = map (regrouped w src dest) w.peering.peers ++ map new_peer (new_copies w src dest)

  -- the namespace that a mount is in afterwards
  abbrev space : ℕ → ℕ
  space i = unwrap_or (option_map (λ (m : Mount). m.space) (mount_at mounts i)) 0

  peers_rise : rises mount_of peers ≡ true
  unfolding copied
  peers_rise = (source_kept w h src dest s d).peering.rising

  -- what may not cross stays on its side
  arranged-side : (i : ℕ) (q : Mount) → mount_at w.forest i ≡ Some q → may_cross w src i ≡ false → family (arranged w src dest q).space ≡ family q.space
  arranged-side i q e stays = go (is_whole src) refl
    where
      go : (b : Bool) → is_whole src ≡ b → family (arranged w src dest q).space ≡ family q.space
      go false is = ap family (arranged-still w src dest is q)
      go true is = elim (cases_eq q.space src.top.space) [
        | inl same ↦
            ap family (arranged-here w src dest is q same)
            ∙ sym (near i q q ((whole_moves w h src dest s d is).all i q e same) e stays)
        | inr off ↦ ap family (arranged-away w src dest q off)
      ]

  arranged-space : (i : ℕ) (q : Mount) → mount_at w.forest i ≡ Some q → family (space i) ≡ family (arranged w src dest q).space
  arranged-space i q e = ap (λ o. family (unwrap_or (option_map (λ (m : Mount). m.space) o) 0)) (kept w h src dest s d i q e)

  old-space : (i : ℕ) (q : Mount) → mount_at w.forest i ≡ Some q → may_cross w src i ≡ false → family (space i) ≡ family (space_of w i)
  old-space i q e stays = arranged-space i q e ∙ arranged-side i q e stays ∙ ap family (sym (space_is w i q e))

  -- a source mount that is there, and may not cross, is on the side of the place
  near-mount : (m q : Mount) (i : ℕ) → In m src.mounts → m.id ≡ i → mount_at w.forest i ≡ Some q → may_cross w src i ≡ false → family q.space ≡ family (space_of w dest.mount)
  near-mount m q i e same f stays = near i m q (ap (mount_at src.mounts) (sym same) ∙ in_row id_of src.mounts m s.tree.rising e) f stays

  near-space : (m q : Mount) (i : ℕ) → In m src.mounts → m.id ≡ i → mount_at w.forest i ≡ Some q → may_cross w src i ≡ false → family (space_of w i) ≡ family (space_of w dest.mount)
  near-space m q i e same f stays = ap family (space_is w i q f) ∙ near-mount m q i e same f stays

  near-group : (m : Mount) (i g : ℕ) → In m src.mounts → m.id ≡ i → group_of w i ≡ Some g → family (space_of w i) ≡ family (space_of w dest.mount)
  near-group m i g e same is = let q = state_at_mount w h i (state_of w i) (group_known w i g is) in near-space m q.0 i e same q.1 (grouped_stays i g is)

  near-master : (m : Mount) (i g : ℕ) → In m src.mounts → m.id ≡ i → (state_of w i).master ≡ Some g → family (space_of w i) ≡ family (space_of w dest.mount)
  near-master m i g e same is = let q = state_at_mount w h i (state_of w i) (master_known w i g is) in near-space m q.0 i e same q.1 (slave_stays i g is)

  -- each state is one that was there, or that of a copy
  abbrev Row : ℕ → State → Type 0
  Row i t =
      ((state_at w.peering.peers i ≡ Some t) × (may_cross w src i ≡ false → family (space i) ≡ family (space_of w i)))
      ⊎ ((c : MountCopy) × In c (all_copies w src dest) × (t ≡ copy_state w src dest c) × (family (space i) ≡ family (space_of w c.target)))

  -- what moves comes to the side of the place
  moved-space : (m : Mount) → In m src.mounts → src.moved ≡ true → family (space m.id) ≡ family (space_of w dest.mount)
  moved-space m e is =
      let q = (s.moves is).known m.id m (in_mounts w h src dest s d m e) in
      go (is_whole src) refl q
    where
      go : (b : Bool) → is_whole src ≡ b → mount_at w.forest m.id ≡ Some m → family (space m.id) ≡ family (space_of w dest.mount)
      go false part q = old-space m.id m q (part_stays m.id part) ∙ near-space m m m.id e refl q (part_stays m.id part)
      go true whole q =
          arranged-space m.id m q
          ∙ ap family (arranged-here w src dest whole m ((whole_moves w h src dest s d whole).alone m.id m (in_mounts w h src dest s d m e)))

  -- a copy is on the side of its target
  copy-space : (c : MountCopy) → In c (all_copies w src dest) → family (space (copy_id w src dest c.target c.source)) ≡ family (space_of w c.target)
  copy-space = each_copy w h src dest s d (λ c. family (space (copy_id w src dest c.target c.source)) ≡ family (space_of w c.target))
      (λ is m e. ap (λ k. family (space k)) (num_here w h src dest s d m.id is) ∙ moved-space m e is)
      (λ t m e f. ap (λ o. family (unwrap_or (option_map (λ (m : Mount). m.space) o) 0)) (made w h src dest s d t m e (in_mounts w h src dest s d m f)))

  rows : (i : ℕ) (t : State) → state_at peers i ≡ Some t → Row i t
  rows i t e = elim (peer_rows w h src dest s d i t e) [
    | inl old ↦ let q = state_at_mount w h i t old in inl (old, old-space i q.0 q.1)
    | inr new ↦ inr (new.0, new.1, new.2, ap (λ k. family (space k)) new.3 ∙ copy-space new.0 new.1)
  ]

  module _ (c : IsContained family w) where
    -- a place in the namespace has its targets there
    hit-inside : (t : ℕ) → In t (targets w dest) → family (space_of w dest.mount) ≡ true → family (space_of w t) ≡ true
    hit-inside t e here = target_contained family w c h.peering.rising dest t e here

    target-inside : (t : ℕ) → In t (destinations w src dest) → family (space_of w dest.mount) ≡ true → family (space_of w t) ≡ true
    target-inside t e here = elim e [ inl same ↦ ap (λ k. family (space_of w k)) (sym same) ∙ here | inr hit ↦ hit-inside t hit here ]

    -- a place without group has no targets but itself
    target-alone : (t : ℕ) → home w src dest ≡ None → In t (destinations w src dest) → space_of w t ≡ space_of w dest.mount
    target-alone t none e = elim e [
      | inl same ↦ ap (space_of w) (sym same)
      | inr hit ↦ let r = receiver_of w dest.mount t (target_received w dest t hit) in let v : None ≡ Some r.0 = sym none ∙ r.1 in absurd (cc)
    ]

    -- a state with a group: like one that was there, or of a new group
    abbrev Grouped : ℕ → ℕ → Type 0
    Grouped i g =
        ((k : ℕ) × (group_of w k ≡ Some g) × (family (space i) ≡ true → family (space_of w k) ≡ true) × (family (space_of w k) ≡ true → family (space i) ≡ true))
        ⊎ ((u : ℕ) × (k : GroupKey) × (key_at w h.peering src dest g ≡ Some k) × (group_of w u ≡ Some k.group) × (w.peering.next ≤ g) × (family (space i) ≡ family (space_of w u)))

    grouped : (i : ℕ) (t : State) (g : ℕ) → state_at peers i ≡ Some t → t.group ≡ Some g → Grouped i g
    grouped i t g e is = elim (rows i t e) [
      | inl old ↦
          let member = state-group w i g t old.0 is in
          let side = old.1 (grouped_stays i g member) in
          inl (i, member, over (space i) (space_of w i) side, over (space_of w i) (space i) (sym side))
      | inr new ↦ by new.0 new.1 new.2 new.3 (home w src dest) refl
    ]
      where
        at : (x : MountCopy) → In x (all_copies w src dest) → family (space i) ≡ family (space_of w x.target) → (a : ℕ) → group_of w x.target ≡ Some a → key_group w src dest (record { group = a; source = x.source }) ≡ g
            → (b : Bool) → is_new_key w (home w src dest) (record { group = a; source = x.source }) ≡ b → Grouped i g
        at x m sp a there same true new =
            let k : GroupKey = record { group = a; source = x.source } in
            let r = new_number w h.peering src dest k (key_in w h.peering src dest k x m (inl (ap (option_map (λ v. record { group = v; source = x.source })) there)) new) new in
            inr (x.target, k, ap (key_at w h.peering src dest) (sym same) ∙ r.2, there, subst (λ v. w.peering.next ≤ v) same r.0, sp)
        at x m sp a there same false old =
            let r = old_key w h.peering src dest (record { group = a; source = x.source }) old in
            let o = copy_in w h.peering src dest x m in
            let own : group_of w dest.mount ≡ Some a = named (group_of w dest.mount) a r.0 in
            let gs : group_of w x.source ≡ Some g = r.1 ∙ ap (λ v. Some v) same in
            let by_place = near-group o.1 x.source g o.2 o.3 gs in
            inl (
              x.source,
              gs,
              λ q. over (space_of w dest.mount) (space_of w x.source) (sym by_place) (c.groups x.target dest.mount a there own (over (space i) (space_of w x.target) sp q)),
              λ q. over (space_of w x.target) (space i) (sym sp) (c.groups dest.mount x.target a own there (over (space_of w x.source) (space_of w dest.mount) by_place q)),
            )

        shared : (x : MountCopy) → In x (all_copies w src dest) → family (space i) ≡ family (space_of w x.target) → (o : Option ℕ) → group_of w x.target ≡ o → option_map (key_group w src dest) (option_map (λ a. record { group = a; source = x.source }) o) ≡ Some g → Grouped i g
        shared x m sp None there f = absurd (cc)
        shared x m sp (Some a) there f = at x m sp a there (let v : key_group w src dest (record { group = a; source = x.source }) ≡ g = cc in v) (is_new_key w (home w src dest) (record { group = a; source = x.source })) refl

        by : (x : MountCopy) → In x (all_copies w src dest) → t ≡ copy_state w src dest x → family (space i) ≡ family (space_of w x.target) → (o : Option ℕ) → home w src dest ≡ o → Grouped i g
        by x m same sp None there =
            let o = copy_in w h.peering src dest x m in
            let gs : group_of w x.source ≡ Some g = ap (λ (s : State). s.group) (sym (same ∙ state-unshared w h.peering src dest x there)) ∙ is in
            let side : family (space i) ≡ family (space_of w x.source) = sp ∙ ap family (target-alone x.target there o.0) ∙ sym (near-group o.1 x.source g o.2 o.3 gs) in
            inl (x.source, gs, over (space i) (space_of w x.source) side, over (space_of w x.source) (space i) (sym side))
        by x m same sp (Some q) there = shared x m sp (group_of w x.target) refl (ap (λ (s : State). s.group) (sym (same ∙ state-shared w h.peering src dest x q there)) ∙ is)

    -- a state with a master: like one that was there, or a slave of a new group
    abbrev Mastered : ℕ → ℕ → Type 0
    Mastered i g =
        ((k : ℕ) × (((state_of w k).master ≡ Some g) ⊎ (group_of w k ≡ Some g)) × (family (space_of w k) ≡ true → family (space i) ≡ true))
        ⊎ ((k : GroupKey) × (key_at w h.peering src dest g ≡ Some k) × (w.peering.next ≤ g) × ((u : ℕ) → group_of w u ≡ Some k.group → family (space_of w u) ≡ true → family (space i) ≡ true))

    mastered : (i : ℕ) (t : State) (g : ℕ) → state_at peers i ≡ Some t → t.master ≡ Some g → Mastered i g
    mastered i t g e is = elim (rows i t e) [
      | inl old ↦ let slave = master-is w i g t old.0 is in inl (i, inl slave, over (space_of w i) (space i) (sym (old.1 (slave_stays i g slave))))
      | inr new ↦ by new.0 new.1 new.2 new.3 (home w src dest) refl
    ]
      where
        -- a copy below a copy of the same source
        at : (x : MountCopy) → In x (all_copies w src dest) → family (space i) ≡ family (space_of w x.target) → (a m : ℕ) → at_home w src dest x.target ≡ false → nearest w src dest x.target ≡ Some a
            → (state_of w x.target).master ≡ Some m → In a (groups_up w.peering.peers m) → key_group w src dest (record { group = a; source = x.source }) ≡ g
            → (b : Bool) → is_new_key w (home w src dest) (record { group = a; source = x.source }) ≡ b → Mastered i g
        at x e sp a m off close up chain same true new =
            let k : GroupKey = record { group = a; source = x.source } in
            let mk : master_key w (home w src dest) (targets w dest) x ≡ Some k = (λ i. key_of (cond (off i) None (close i)) x.source) in
            let r = new_number w h.peering src dest k (key_in w h.peering src dest k x e (inr mk) new) new in
            let far : reaches w.peering.peers m a ≡ true = any_in (λ k. eqb k a) a (groups_up w.peering.peers m) chain (eq-eqb a a refl) in
            inr (k, ap (key_at w h.peering src dest) (sym same) ∙ r.2, subst (λ v. w.peering.next ≤ v) same r.0, λ u there q. over (space_of w x.target) (space i) (sym sp) (c.chains x.target u m a up there q far))
        at x e sp a m off close up chain same false old =
            let r = old_key w h.peering src dest (record { group = a; source = x.source }) old in
            let o = copy_in w h.peering src dest x e in
            let gs : group_of w x.source ≡ Some g = r.1 ∙ ap (λ v. Some v) same in
            inl (x.source, inr gs, λ q. over (space_of w x.target) (space i) (sym sp) (target-inside x.target o.0 (over (space_of w x.source) (space_of w dest.mount) (near-group o.1 x.source g o.2 o.3 gs) q)))

        by : (x : MountCopy) → In x (all_copies w src dest) → t ≡ copy_state w src dest x → family (space i) ≡ family (space_of w x.target) → (o : Option ℕ) → home w src dest ≡ o → Mastered i g
        by x m same sp None there =
            let o = copy_in w h.peering src dest x m in
            let ms : (state_of w x.source).master ≡ Some g = ap (λ (s : State). s.master) (sym (same ∙ state-unshared w h.peering src dest x there)) ∙ is in
            inl (x.source, inl ms, λ q. over (space_of w x.target) (space i) (sym sp) (ap family (target-alone x.target there o.0) ∙ over (space_of w x.source) (space_of w dest.mount) (near-master o.1 x.source g o.2 o.3 ms) q))
        by x m same sp (Some q) there =
            let o = copy_in w h.peering src dest x m in
            elim (master_by_cases w h.peering src dest (at_home w src dest x.target) (nearest w src dest x.target) x.source g (ap (λ (s : State). s.master) (sym (same ∙ state-shared w h.peering src dest x q there)) ∙ is)) [
              | inl ms ↦ inl (x.source, inl ms, λ q. over (space_of w x.target) (space i) (sym sp) (target-inside x.target o.0 (over (space_of w x.source) (space_of w dest.mount) (near-master o.1 x.source g o.2 o.3 ms) q)))
              | inr other ↦
                  let a = above_from w h.peering src dest (state_of w x.target).master other.0 other.2 in
                  at x m sp other.0 a.0 other.1 other.2 a.1 a.2 (sym other.3) (is_new_key w (home w src dest) (record { group = other.0; source = x.source })) refl
            ]

    old-group : (k g : ℕ) → group_of w k ≡ Some g → g < w.peering.next
    old-group k g e = h.peering.below k (state_of w k) g (group_known w k g e) e

    old-either : (k g : ℕ) → ((state_of w k).master ≡ Some g) ⊎ (group_of w k ≡ Some g) → g < w.peering.next
    old-either k g (inl m) = old_low w h.peering src dest k g m
    old-either k g (inr e) = old-group k g e

    -- a slave or a member of a group of the namespace is in it
    drawn : (k j g : ℕ) → ((state_of w k).master ≡ Some g) ⊎ (group_of w k ≡ Some g) → group_of w j ≡ Some g → family (space_of w j) ≡ true → family (space_of w k) ≡ true
    drawn k j g (inl m) e q = c.chains k j g g m e q (reaches-self w.peering.peers g)
    drawn k j g (inr s) e q = c.groups j k g e s q

    pub copied-contained : IsContained family (copied w src dest)
    unfolding copied
    copied-contained = contained family (copied w src dest) peers_rise (record {
      groups = λ i j s t g ei ej gi gj q.
          both_kinds w.peering.next g (grouped i s g ei gi) (grouped j t g ej gj) (λ a. old-group a.0 g a.1) (λ b. old-group b.0 g b.1) (λ a. a.4) (λ b. b.4)
          (λ a b. a.3 (c.groups b.0 a.0 g b.1 a.1 (b.2 q)))
          (λ a b.
          let same : b.1.group ≡ a.1.group = ap (λ (k : GroupKey). k.group) (some-is b.1 a.1 (sym b.2 ∙ a.2)) in
          over (space_of w a.0) (space i) (sym a.5) (c.groups b.0 a.0 b.1.group b.3 (a.3 ∙ ap (λ v. Some v) (sym same)) (over (space j) (space_of w b.0) b.5 q)));
      masters = λ i j s t g ei ej mi gj q.
          both_kinds w.peering.next g (mastered i s g ei mi) (grouped j t g ej gj) (λ a. old-either a.0 g a.1) (λ b. old-group b.0 g b.1) (λ a. a.2) (λ b. b.4)
          (λ a b. a.2 (drawn a.0 b.0 g a.1 b.1 (b.2 q)))
          (λ a b.
          let same : b.1.group ≡ a.0.group = ap (λ (k : GroupKey). k.group) (some-is b.1 a.0 (sym b.2 ∙ a.1)) in
          a.3 b.0 (b.3 ∙ ap (λ v. Some v) same) (over (space j) (space_of w b.0) b.5 q));
    })

    -- what happens at a place of the namespace
    module _ (within : IsFromInside family w src) (here : family (space_of w dest.mount) ≡ true) where
      top-inside : (m : Mount) → mount_at w.forest m.id ≡ Some m → src.moved ≡ true → m.id ≡ src.top.id → family m.space ≡ true
      top-inside m e moved same = within m.id src.top m (ap (mount_at src.mounts) same ∙ s.tree.top_there) e

      -- and so is a whole tree
      whole-inside : is_whole src ≡ true → family src.top.space ≡ true
      whole-inside whole =
          let moves = and_first src.moved (is_none src.top.place) whole in
          top-inside src.top ((s.moves moves).known src.top.id src.top s.tree.top_there) moves refl

      way-inside : (m : Mount) (t : ℕ) → mount_at w.forest m.id ≡ Some m → find (λ t. is_at (record { mount = t; dir = dest.dir }) m) (targets w dest) ≡ Some t → family m.space ≡ true
      way-inside m t e is =
          let f = find_in (λ t. is_at (record { mount = t; dir = dest.dir }) m) (targets w dest) t is in
          let p = h.forest.placed m.id m (record { mount = t; dir = dest.dir }) e (stands_at (record { mount = t; dir = dest.dir }) m f.1) in
          ap family (sym p.2 ∙ sym (space_is w t p.0 p.1)) ∙ hit-inside t f.0 here

      apart : {A : Type 0} (k : ℕ) → family k ≡ false → family k ≡ true → A
      apart k off is = absurd (true≢false (sym is ∙ off))

      stays : (m : Mount) → mount_at w.forest m.id ≡ Some m → family m.space ≡ false → arranged w src dest m ≡ m
      stays m e off =
          arranged-same w src dest m
          (relocated-same w src dest m (no_top (src.moved && (m.id == src.top.id)) refl) (none_found _ (λ t is. apart m.space off (way-inside m t e is))))
          (no_home (is_whole src && (m.space == src.top.space)) refl)
        where
          no_home : (b : Bool) → (is_whole src && (m.space == src.top.space)) ≡ b → (is_whole src && (m.space == src.top.space)) ≡ false
          no_home false is = is
          no_home true is =
              let same = eqb-true m.space src.top.space (and_second (is_whole src) (m.space == src.top.space) is) in
              apart m.space off (ap family same ∙ whole-inside (and_first (is_whole src) (m.space == src.top.space) is))

          no_top : (b : Bool) → (src.moved && (m.id == src.top.id)) ≡ b → (src.moved && (m.id == src.top.id)) ≡ false
          no_top false is = is
          no_top true is = apart m.space off (top-inside m e (and_first src.moved (m.id == src.top.id) is) (eqb-true m.id src.top.id (and_second src.moved (m.id == src.top.id) is)))

      -- each mount stays on its side
      same-space : (m : Mount) → mount_at w.forest m.id ≡ Some m → family (arranged w src dest m).space ≡ family m.space
      same-space m e = go (is_whole src) refl
        where
          go : (b : Bool) → is_whole src ≡ b → family (arranged w src dest m).space ≡ family m.space
          go false is = ap family (arranged-still w src dest is m)
          go true is = elim (cases_eq m.space src.top.space) [
            | inl same ↦ ap family (arranged-here w src dest is m same) ∙ here ∙ sym (ap family same ∙ whole-inside is)
            | inr off ↦ ap family (arranged-away w src dest m off)
          ]

      -- so a namespace outside has the mounts that it had
      kept-there : (k : ℕ) → family k ≡ false → (m : Mount) → mount_at w.forest m.id ≡ Some m → (b : Bool) → family m.space ≡ b
          → (in_space k (arranged w src dest m) ≡ in_space k m) × (in_space k m ≡ true → arranged w src dest m ≡ m)
      kept-there k off m e false out = let same = stays m e out in (ap (in_space k) same, λ is. same)
      kept-there k off m e true inside =
          let no : (x : ℕ) → family x ≡ true → (x == k) ≡ false = λ x is. ne_eqb x k (λ same. apart k off (ap family (sym same) ∙ is)) in
          (no (arranged w src dest m).space (same-space m e ∙ inside) ∙ sym (no m.space inside), λ is. apart k off (ap family (sym (eqb-true m.space k is)) ∙ inside))

      same-mounts : (k : ℕ) → family k ≡ false → filter (in_space k) mounts ≡ filter (in_space k) w.forest
      same-mounts k off =
          filter-append (in_space k) (map (arranged w src dest) w.forest) (new_mounts w src dest)
          ∙ (λ i. old i ++ new i) ∙ append-nil (filter (in_space k) w.forest)
        where
          old : filter (in_space k) (map (arranged w src dest) w.forest) ≡ filter (in_space k) w.forest
          old =
              part-mapped (in_space k) (arranged w src dest) w.forest
              (each_still (λ m. mount_at w.forest m.id ≡ Some m) (λ m. (in_space k (arranged w src dest m) ≡ in_space k m) × (in_space k m ≡ true → arranged w src dest m ≡ m))
              (λ m e. kept-there k off m e (family m.space) refl) w.forest (found-each id_of w.forest h.forest.rising))

          new : filter (in_space k) (new_mounts w src dest) ≡ []
          new = none-picked (in_space k) (new_mounts w src dest) (λ a e.
              let p = in_pairs (copied_mount w src dest) src.mounts (cond src.moved (targets w dest) (destinations w src dest)) a e in
              let there : family a.space ≡ true = ap (λ (m : Mount). family m.space) (sym p.4) ∙ target-inside p.0 (new_target w h src dest s d p.0 p.2) here in
              ne_eqb a.space k (λ same. apart k off (ap family (sym same) ∙ there)))

      same-state : (i : ℕ) (q : Mount) → mount_at w.forest i ≡ Some q → family q.space ≡ false → unwrap_or (state_at peers i) private ≡ state_of w i
      same-state i q e off =
          let t = mount-state w.forest w.peering.peers i q h.same_mounts e in
          let r = state_row w.peering.peers i t.0 t.1 in
          let key = row_at-key mount_of i w.peering.peers r.0 r.2 in
          let row = row-first mount_of (map (regrouped w src dest) w.peering.peers) (map new_peer (new_copies w src dest)) i (regrouped w src dest r.0) (row-mapped mount_of (regrouped w src dest) (regrouped-mount w src dest) w.peering.peers i r.0 r.2) in
          ap (λ o. unwrap_or (option_map (λ (e : Peer). e.state) o) private) (row ∙ ap (λ v. Some v) (unmoved r.0 key (is_moved w src dest r.0.mount) refl))
          ∙ sym (ap (λ o. unwrap_or (option_map (λ (e : Peer). e.state) o) private) r.2)
        where
          unmoved : (x : Peer) → x.mount ≡ i → (b : Bool) → is_moved w src dest x.mount ≡ b → cond b (record { mount = x.mount; state = copy_state w src dest (record { target = dest.mount; source = x.mount }) }) x ≡ x
          unmoved x key false is = refl
          unmoved x key true is =
              let m = moving w h src dest s d x.mount is in
              apart q.space off (within i m.1 q (ap (mount_at src.mounts) (sym (m.3 ∙ key)) ∙ in_row id_of src.mounts m.1 s.tree.rising m.2) e)

      pub copied-outside : IsSameOutside family w (copied w src dest)
      unfolding copied
      copied-outside = record { skel = refl; mounts = same-mounts; states = same-state }
