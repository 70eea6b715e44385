-- A well-formed world stays so where a private mount gets a state that it may have.
use Rattle.std.proofs.Common.{◌≡◌, ◌≢◌, ◌⊎◌, ℕ, ◌+◌, ◌<◌, ◌≤◌, true, false, cond, List, [], ◌∷◌, map, length, Some, None, refl, sym, ap, subst, ◌∙◌, inl, inr, arith}
use Rattle.std.specs.Prelude.{unwrap_or}
use Rattle.std.specs.Option.{is_some}
use Rattle.std.proofs.lemmas.Bool.{cases_eq, true≢false}
use Rattle.std.proofs.lemmas.List.{length-map}
use Rattle.std.proofs.lemmas.Option.{same_Some}
use Rattle.mt_skel.specs.Chain.{ends}
use Rattle.mt_skel.proofs.ChainLaws.{ends-within}
use Rattle.mt_skel.specs.Keyed.{rises}
use Rattle.mt_mounts.specs.declared.mount.Mount.{Mount}
use Rattle.mt_mounts.specs.Forest.{mount_at}
use Rattle.mt_peers.specs.declared.state.State.{State}
use Rattle.mt_peers.specs.Peers.{Peer, Peering, mount_of, state_at, has_member, with_state}
use Rattle.mt_peers.specs.Masters.{master_of}
use Rattle.mt_peers.specs.WellFormed.{IsPeering}
use Rattle.mt_peers.proofs.EntryLaws.{rises-given, given_state, other_state}
use Rattle.mt_peers.proofs.LeavingLaws.{up_rank, up_falls}
use Rattle.mt_peers.proofs.MemberLaws.{master_of-from, master_of-is, group_number, known, length-chain-le, member-there, living}
use Rattle.mt_propagate.specs.World.{WorldView, private, state_of}
use Rattle.mt_propagate.specs.WellFormed.{IsWellFormed, fs_at}
use Rattle.mt_propagate.proofs.ShownLaws.{mount-state, grouped-state, slave-state, state-group}
use Rattle.mt_world.specs.States.{HasMember, MayHave, with_joined}

-- a rank of groups: those without a member are above all others
unfoldable rank : (p : Peering) → IsPeering p → ℕ → ℕ
rank p h g = cond (has_member p.peers g) (up_rank p h g) (length p.peers + 5)

rank_led : (p : Peering) (h : IsPeering p) (g : ℕ) → has_member p.peers g ≡ true → rank p h g ≡ up_rank p h g
unfolding rank
rank_led p h g e = ap (λ b. cond b (up_rank p h g) (length p.peers + 5)) e

rank_new : (p : Peering) (h : IsPeering p) (g : ℕ) → has_member p.peers g ≡ false → rank p h g ≡ length p.peers + 5
unfolding rank
rank_new p h g e = ap (λ b. cond b (up_rank p h g) (length p.peers + 5)) e

rank_low : (p : Peering) (h : IsPeering p) (g : ℕ) → up_rank p h g ≤ length p.peers + 1
unfolding up_rank
rank_low p h g = length-chain-le (master_of p.peers) (length p.peers) g

-- the mounts that have states
given_mounts : (i : ℕ) (s : State) (es : List Peer) → map mount_of (with_state i s es) ≡ map mount_of es
given_mounts i s [] = refl
given_mounts i s (e ∷ es) = ap (λ l. e.mount ∷ l) (given_mounts i s es)

module _ (w : WorldView) (i : ℕ) (s : State) (h : IsWellFormed w) (m : Mount) (there : mount_at w.forest i ≡ Some m) (was : state_of w i ≡ private) (may : MayHave w i s) where
  abbrev after : WorldView
  after = with_joined w i s

  abbrev es : List Peer
  es = w.peering.peers

  -- the mount was private, and has the state
  was_at : state_at es i ≡ Some private
  was_at =
      let t = mount-state w.forest es i m h.same_mounts there in
      t.1 ∙ ap Some (ap (λ o. unwrap_or o private) (sym t.1) ∙ was)

  pub joined_at : state_at after.peering.peers i ≡ Some s
  joined_at = given_state es i s (ap is_some was_at)

  -- each state is that, or one of before
  cases : (j : ℕ) (t : State) → state_at after.peering.peers j ≡ Some t → ((j ≡ i) × (t ≡ s)) ⊎ ((j ≢ i) × (state_at es j ≡ Some t))
  cases j t e = elim (cases_eq j i) [
    | inl same ↦ inl (same, same_Some t s (sym e ∙ ap (state_at after.peering.peers) same ∙ joined_at))
    | inr off ↦ inr (off, sym (other_state i s j es off) ∙ e)
  ]

  -- what has a group or a master before is another mount, and keeps its state
  off_group : (j g : ℕ) (t : State) → state_at es j ≡ Some t → t.group ≡ Some g → j ≢ i
  off_group j g t e is same =
      let p : private ≡ t = same_Some private t (sym was_at ∙ ap (state_at es) (sym same) ∙ e) in
      let v : None ≡ Some g = ap (λ (x : State). x.group) p ∙ is in
      absurd (cc)

  kept_state : (j : ℕ) (t : State) → j ≢ i → state_at es j ≡ Some t → state_at after.peering.peers j ≡ Some t
  kept_state j t off e = other_state i s j es off ∙ e

  still_lives : (g : ℕ) → has_member es g ≡ true → has_member after.peering.peers g ≡ true
  still_lives g l =
      let x = living es g h.peering.rising l in
      member-there g after.peering.peers x.0.mount x.0.state (kept_state x.0.mount x.0.state (off_group x.0.mount g x.0.state x.2 x.3) x.2) x.3

  lives : (g : ℕ) (x : HasMember w g (fs_at w i)) → has_member es g ≡ true
  lives g x = member-there g es x.mount x.state x.there x.grouped

  rising : rises mount_of after.peering.peers ≡ true
  rising = rises-given i s es h.peering.rising

  falls : (x y : ℕ) → master_of after.peering.peers x ≡ Some y → rank w.peering h.peering y < rank w.peering h.peering x
  falls x y e =
      let f = master_of-from after.peering.peers x y rising e in
      elim (cases f.0 f.1 f.2) [
        | inr old ↦
            let l = up_falls w.peering h.peering x y (master_of-is es h.peering.rising h.peering.one_master f.0 f.1 x old.1 f.3 ∙ f.4) in
            let a = rank_led w.peering h.peering x (member-there x es f.0 f.1 old.1 f.3) in
            let b = rank_led w.peering h.peering y (h.peering.master_lives f.0 f.1 y old.1 f.4) in
            omega (arith, l, a, b)
        | inl new ↦
            let grouped : s.group ≡ Some x = ap (λ (t : State). t.group) (sym new.1) ∙ f.3 in
            let led : s.master ≡ Some y = ap (λ (t : State). t.master) (sym new.1) ∙ f.4 in
            let b = rank_led w.peering h.peering y (lives y (may.master y led)) in
            elim (may.group x grouped).1 [
              | inl none ↦
                  let a = rank_new w.peering h.peering x none in
                  let l = rank_low w.peering h.peering y in
                  omega (arith, a, b, l)
              | inr peer ↦
                  let l = up_falls w.peering h.peering x y (master_of-is es h.peering.rising h.peering.one_master peer.0.mount peer.0.state x peer.0.there peer.0.grouped ∙ peer.1 ∙ led) in
                  let a = rank_led w.peering h.peering x (member-there x es peer.0.mount peer.0.state peer.0.there peer.0.grouped) in
                  omega (arith, l, a, b)
            ]
      ]

  -- the master of a member of the group, if it had one
  same_master : (j g : ℕ) (t : State) → state_at es j ≡ Some t → t.group ≡ Some g → s.group ≡ Some g → t.master ≡ s.master
  same_master j g t e is of = elim (may.group g of).1 [
    | inl none ↦ absurd (true≢false (sym (member-there g es j t e is) ∙ none))
    | inr peer ↦ h.peering.one_master j peer.0.mount t peer.0.state g e peer.0.there is peer.0.grouped ∙ peer.1
  ]

  one_master : (j k : ℕ) (t u : State) (g : ℕ) → state_at after.peering.peers j ≡ Some t → state_at after.peering.peers k ≡ Some u → t.group ≡ Some g → u.group ≡ Some g → t.master ≡ u.master
  one_master j k t u g et eu gt gu = elim (cases j t et) [
    | inl a ↦ elim (cases k u eu) [
      | inl b ↦ ap (λ (x : State). x.master) (a.1 ∙ sym b.1)
      | inr b ↦ ap (λ (x : State). x.master) a.1 ∙ sym (same_master k g u b.1 gu (ap (λ (x : State). x.group) (sym a.1) ∙ gt))
    ]
    | inr a ↦ elim (cases k u eu) [
      | inl b ↦ same_master j g t a.1 gt (ap (λ (x : State). x.group) (sym b.1) ∙ gu) ∙ ap (λ (x : State). x.master) (sym b.1)
      | inr b ↦ h.peering.one_master j k t u g a.1 b.1 gt gu
    ]
  ]

  peering : IsPeering after.peering
  peering = record {
    rising = rising;
    below = λ j t g e is. elim (cases j t e) [ inl new ↦ (may.group g (ap (λ (x : State). x.group) (sym new.1) ∙ is)).0 | inr old ↦ h.peering.below j t g old.1 is ];
    one_master = one_master;
    master_lives = λ j t g e is. still_lives g (elim (cases j t e) [ inl new ↦ lives g (may.master g (ap (λ (x : State). x.master) (sym new.1) ∙ is)) | inr old ↦ h.peering.master_lives j t g old.1 is ]);
    no_cycle = λ g. subst (λ k. ends (master_of after.peering.peers) k g ≡ true) (length-map after.peering.peers group_number)
        (ends-within (master_of after.peering.peers) (rank w.peering h.peering) falls (map group_number after.peering.peers) (known after.peering.peers) g);
    unbindable_alone = λ j t e u. elim (cases j t e) [
      | inl new ↦
          let a = may.alone (ap (λ (x : State). x.unbindable) (sym new.1) ∙ u) in
          (ap (λ (x : State). x.group) new.1 ∙ a.0, ap (λ (x : State). x.master) new.1 ∙ a.1)
      | inr old ↦ h.peering.unbindable_alone j t old.1 u
    ];
  }

  -- what mounts show does not change, nor does it for their groups
  shows : (j g : ℕ) (t : State) → state_at es j ≡ Some t → t.group ≡ Some g → (x : HasMember w g (fs_at w i)) → fs_at w j ≡ fs_at w i
  shows j g t e is x = h.group_fs j x.mount g (state-group w j g t e is) (state-group w x.mount g x.state x.there x.grouped) ∙ x.shows

  group_shows : (j g : ℕ) (t : State) → state_at es j ≡ Some t → t.group ≡ Some g → s.group ≡ Some g → fs_at w j ≡ fs_at w i
  group_shows j g t e is of = elim (may.group g of).1 [
    | inl none ↦ absurd (true≢false (sym (member-there g es j t e is) ∙ none))
    | inr peer ↦ shows j g t e is peer.0
  ]

  group_fs : (j k g : ℕ) (t u : State) → state_at after.peering.peers j ≡ Some t → state_at after.peering.peers k ≡ Some u → t.group ≡ Some g → u.group ≡ Some g → fs_at w j ≡ fs_at w k
  group_fs j k g t u et eu gt gu = elim (cases j t et) [
    | inl a ↦ elim (cases k u eu) [
      | inl b ↦ ap (fs_at w) (a.0 ∙ sym b.0)
      | inr b ↦ ap (fs_at w) a.0 ∙ sym (group_shows k g u b.1 gu (ap (λ (x : State). x.group) (sym a.1) ∙ gt))
    ]
    | inr a ↦ elim (cases k u eu) [
      | inl b ↦ group_shows j g t a.1 gt (ap (λ (x : State). x.group) (sym b.1) ∙ gu) ∙ ap (fs_at w) (sym b.0)
      | inr b ↦ h.group_fs j k g (state-group w j g t a.1 gt) (state-group w k g u b.1 gu)
    ]
  ]

  master_shows : (j g : ℕ) (t : State) → state_at es j ≡ Some t → t.master ≡ Some g → s.group ≡ Some g → fs_at w j ≡ fs_at w i
  master_shows j g t e is of = elim (may.group g of).1 [
    | inl none ↦ absurd (true≢false (sym (h.peering.master_lives j t g e is) ∙ none))
    | inr peer ↦ h.master_fs j peer.0.mount g (led_by j g t e is) (state-group w peer.0.mount g peer.0.state peer.0.there peer.0.grouped) ∙ peer.0.shows
  ]
    where
      led_by : (j g : ℕ) (t : State) → state_at es j ≡ Some t → t.master ≡ Some g → (state_of w j).master ≡ Some g
      led_by j g t e is = ap (λ o. (unwrap_or o private).master) e ∙ is

  master_fs : (j k g : ℕ) (t u : State) → state_at after.peering.peers j ≡ Some t → state_at after.peering.peers k ≡ Some u → t.master ≡ Some g → u.group ≡ Some g → fs_at w j ≡ fs_at w k
  master_fs j k g t u et eu tm gu = elim (cases j t et) [
    | inl a ↦ elim (cases k u eu) [
      | inl b ↦ ap (fs_at w) (a.0 ∙ sym b.0)
      | inr b ↦ ap (fs_at w) a.0 ∙ sym (shows k g u b.1 gu (may.master g (ap (λ (x : State). x.master) (sym a.1) ∙ tm)))
    ]
    | inr a ↦ elim (cases k u eu) [
      | inl b ↦ master_shows j g t a.1 tm (ap (λ (x : State). x.group) (sym b.1) ∙ gu) ∙ ap (fs_at w) (sym b.0)
      | inr b ↦ h.master_fs j k g (ap (λ o. (unwrap_or o private).master) a.1 ∙ tm) (state-group w k g u b.1 gu)
    ]
  ]

  pub joined-kept : IsWellFormed after
  joined-kept = record {
    forest = h.forest;
    peering = peering;
    same_mounts = h.same_mounts ∙ sym (given_mounts i s es);
    from_one = h.from_one;
    below = h.below;
    group_fs = λ j k g ej ek. let a = grouped-state after j g ej in let b = grouped-state after k g ek in group_fs j k g a.0 b.0 a.1 b.1 a.2 b.2;
    master_fs = λ j k g ej ek. let a = slave-state after j g ej in let b = grouped-state after k g ek in master_fs j k g a.0 b.0 a.1 b.1 a.2 b.2;
    trees = h.trees;
  }
