-- A set of mounts that has all that receive from its members stays one, and mounts outside keep their states.
use Rattle.std.proofs.Common.{◌≡◌, ◌⊎◌, ℕ, zero, suc, ◌<◌, Bool, true, false, cond, not, ◌||◌, eqb, eqb-true, eq-eqb, List, [], map, length, Option, Some, None, refl, sym, ap, ◌∙◌, subst, inl, inr, arith}
use Rattle.std.specs.List.{list_any, filter}
use Rattle.std.specs.Option.{option_map_or}
use Rattle.std.proofs.lemmas.Bool.{false_from_ne_true}
use Rattle.std.proofs.lemmas.Bool.Decides.{nat_tests}
use Rattle.mt_skel.specs.Chain.{chain}
use Rattle.mt_skel.specs.Keyed.{rises}
use Rattle.mt_skel.proofs.ElementLaws.{In, in_any, any_in, in_filtered, in_mapped}
use Rattle.mt_peers.specs.declared.state.State.{State}
use Rattle.mt_peers.specs.declared.state.Kind.{Kind}
use Rattle.mt_peers.specs.Peers.{Peer, Peering, mount_of, state_at, in_group, has_member}
use Rattle.mt_peers.specs.Masters.{master_of, groups_up, reaches}
use Rattle.mt_peers.specs.Loss.{settle, heir, left}
use Rattle.mt_peers.specs.Making.{made, changed, changed_peer, new_group}
use Rattle.mt_peers.specs.WellFormed.{IsPeering}
use Rattle.mt_peers.proofs.MemberLaws.{master_of-from, state_at-filter, state_at-without, state_at-map, names-is}
use Rattle.mt_peers.proofs.SettleLaws.{before, find-among, state_at-settle}
use Rattle.mt_peers.proofs.MakingLaws.{changed-master, old_master, origin, source, both, made-settled}
use Rattle.mt_peers.proofs.GoingLaws.{heir-stays}
pub use Rattle.mt_peers.proofs.MemberLaws.{living}

-- with one member of a group, the set has all its members and all its slaves
pub record IsClosed (P : ℕ → Type 0) (es : List Peer) : Type 0 where
  pub groups : (i j : ℕ) (s t : State) (g : ℕ) → state_at es i ≡ Some s → state_at es j ≡ Some t → s.group ≡ Some g → t.group ≡ Some g → P j → P i
  pub masters : (i j : ℕ) (s t : State) (g : ℕ) → state_at es i ≡ Some s → state_at es j ≡ Some t → s.master ≡ Some g → t.group ≡ Some g → P j → P i

-- where each member of a group is like one that was there, and each slave like a slave or a peer of its master's members
pub like-IsClosed : (P Q : ℕ → Type 0) (old new : List Peer) → IsClosed P old
    → ((i : ℕ) (t : State) (g : ℕ) → state_at new i ≡ Some t → t.group ≡ Some g → (j : ℕ) × (s : State) × (state_at old j ≡ Some s) × (s.group ≡ Some g) × (P j → Q i) × (Q i → P j))
    → ((i : ℕ) (t : State) (g : ℕ) → state_at new i ≡ Some t → t.master ≡ Some g → (j : ℕ) × (s : State) × (state_at old j ≡ Some s) × ((s.master ≡ Some g) ⊎ (s.group ≡ Some g)) × (P j → Q i))
    → IsClosed Q new
like-IsClosed P Q old new a grouped mastered = record {
  groups = λ i j s t g es et gs gt q.
      let x = grouped i s g es gs in
      let y = grouped j t g et gt in
      x.4 (a.groups x.0 y.0 x.1 y.1 g x.2 y.2 x.3 y.3 (y.5 q));
  masters = λ i j s t g es et ms gt q.
      let x = mastered i s g es ms in
      let y = grouped j t g et gt in
      x.4 (elim x.3 [
        | inl m ↦ a.masters x.0 y.0 x.1 y.1 g x.2 y.2 m y.3 (y.5 q)
        | inr m ↦ a.groups x.0 y.0 x.1 y.1 g x.2 y.2 m y.3 (y.5 q)
      ]);
}

-- a set that agrees with a closed one on the mounts that are there is closed
pub same-IsClosed : (P Q : ℕ → Type 0) (es : List Peer) → ((i : ℕ) (s : State) → state_at es i ≡ Some s → (P i → Q i) × (Q i → P i)) → IsClosed P es → IsClosed Q es
same-IsClosed P Q es same a =
    like-IsClosed P Q es es a (λ i t g e is. let b = same i t e in (i, t, e, is, b.0, b.1)) (λ i t g e is. (i, t, e, inl is, (same i t e).0))

-- what goes from each number to the next is true of a whole chain
pub along : (next : ℕ → Option ℕ) (P : ℕ → Type 0) → ((x y : ℕ) → P x → next x ≡ Some y → P y) → (n x q : ℕ) → P x → list_any (eqb q) (chain next n x) ≡ true → P q
along next P step zero x q px h = let s : q ≡ x = grind (arith, nat_tests) in subst P (sym s) px
along next P step (suc n) x q px h = elim (eqb q x) as (λ b. eqb q x ≡ b → (b || list_any (eqb q) (option_map_or (λ y. chain next n y) (next x) [])) ≡ true → P q) [
  | true ↦ λ t _. subst P (sym (eqb-true q x t)) px
  | false ↦ λ _ r. elim (next x) as (λ o. next x ≡ o → list_any (eqb q) (option_map_or (λ y. chain next n y) o []) ≡ true → P q) [
    | None ↦ λ _ f. absurd (cc)
    | Some y ↦ λ e f. along next P step n y q (step x y px e) f
  ] refl r
] refl h

pub heir-along : (old new : List Peer) (P : ℕ → Type 0) → ((x y : ℕ) → P x → master_of old x ≡ Some y → P y) → (m : Option ℕ) (g : ℕ) → ((k : ℕ) → m ≡ Some k → P k) → heir old new m ≡ Some g → P g
heir-along old new P step None g start e = absurd (cc)
heir-along old new P step (Some m) g start e = along (master_of old) P step (length old) m g (start m refl) (find-among (has_member new) (groups_up old m) g e)

-- a chain of masters that leads to a group of the set begins at one of the set
pub reached : (P : ℕ → Type 0) (es : List Peer) → rises mount_of es ≡ true → IsClosed P es → (i j m g : ℕ) (s t : State)
    → state_at es i ≡ Some s → state_at es j ≡ Some t → s.master ≡ Some m → t.group ≡ Some g → P j → reaches es m g ≡ true → P i
reached P es r a i j m g s t ei ej ms gt q far =
    let here = in_any (λ k. eqb k g) (groups_up es m) far in
    let turned = any_in (eqb g) here.0 (groups_up es m) here.1 (eq-eqb g here.0 (sym (eqb-true here.0 g here.2))) in
    along (master_of es) (λ x. (k : ℕ) (u : State) → state_at es k ≡ Some u → u.group ≡ Some x → P k → P i)
    (λ x y draws up.
    let f = master_of-from es x y r up in
    λ k u ek gu p. draws f.0 f.1 f.2 f.3 (a.masters f.0 k f.1 u y f.2 ek f.4 gu p))
    (length es) m g (λ k u ek gu p. a.masters i k s u m ei ek ms gu p) turned j t ej gt q

-- a master that still lives stays
pub settled-same : (old mid : List Peer) (i : ℕ) (s : State) → state_at mid i ≡ Some s → ((m : ℕ) → s.master ≡ Some m → has_member mid m ≡ true) → state_at (settle old mid) i ≡ Some s
settled-same old mid i s e lives = grind (arith, state_at-settle old mid i, heir-stays old mid s.master lives)

module _ (P : ℕ → Type 0) (p : Peering) (h : IsPeering p) (a : IsClosed P p.peers) where
  -- a group that was given out, and that has no member in the set unless the mount is in it
  abbrev Draws : ℕ → ℕ → Type 0
  Draws i g = (g < p.next) × ((j : ℕ) (t : State) → state_at p.peers j ≡ Some t → t.group ≡ Some g → P j → P i)

  up : (i x y : ℕ) → Draws i x → master_of p.peers x ≡ Some y → Draws i y
  up i x y s e =
      let m = master_of-from p.peers x y h.rising e in
      (old_master p h m.0 m.1 y m.2 m.4, λ j t ej gt q. s.1 m.0 m.1 m.2 m.3 (a.masters m.0 j m.1 t y m.2 ej m.4 gt q))

  -- the groups of which a mount can become a slave
  starts : (i : ℕ) (s : State) (k : ℕ) → state_at p.peers i ≡ Some s → (s.master ≡ Some k) ⊎ (s.group ≡ Some k) → Draws i k
  starts i s k e (inl m) = (old_master p h i s k e m, λ j t ej gt q. a.masters i j s t k e ej m gt q)
  starts i s k e (inr g) = (h.below i s k e g, λ j t ej gt q. a.groups i j s t k e ej g gt q)

  module _ (mid : List Peer)
      (groups : (i j : ℕ) (s t : State) (g : ℕ) → state_at mid i ≡ Some s → state_at mid j ≡ Some t → s.group ≡ Some g → t.group ≡ Some g → P j → P i)
      (group_was : (j : ℕ) (t : State) (g : ℕ) → state_at mid j ≡ Some t → t.group ≡ Some g → g < p.next → (s : State) × (state_at p.peers j ≡ Some s) × (s.group ≡ Some g))
      (master_was : (i : ℕ) (t : State) (g : ℕ) → state_at mid i ≡ Some t → t.master ≡ Some g → (s : State) × (state_at p.peers i ≡ Some s) × ((s.master ≡ Some g) ⊎ (s.group ≡ Some g))) where
    settle-IsClosed : IsClosed P (settle p.peers mid)
    settle-IsClosed = record {
      groups = λ i j s t g es et gs gt q.
          let b = before p.peers mid i s es in
          let c = before p.peers mid j t et in
          groups i j b.0 c.0 g b.1 c.1 (ap (λ (s : State). s.group) (sym b.2) ∙ gs) (ap (λ (s : State). s.group) (sym c.2) ∙ gt) q;
      masters = λ i j s t g es et ms gt q.
          let b = before p.peers mid i s es in
          let c = before p.peers mid j t et in
          let draws : Draws i g =
          heir-along p.peers mid (Draws i) (up i) b.0.master g (λ k e. let w = master_was i b.0 k b.1 e in starts i w.0 k w.1 w.2) (ap (λ (s : State). s.master) (sym b.2) ∙ ms) in
          let was = group_was j c.0 g c.1 (ap (λ (s : State). s.group) (sym c.2) ∙ gt) draws.0 in
          draws.1 j was.0 was.1 was.2 q;
    }

  -- when mounts leave
  pub left-IsClosed : (gone : ℕ → Bool) → IsClosed P (left gone p).peers
  unfolding left
  left-IsClosed gone =
      let stay : Peer → Bool = λ e. not (gone e.mount) in
      let was : (i : ℕ) (s : State) → state_at (filter stay p.peers) i ≡ Some s → state_at p.peers i ≡ Some s = λ i s e. state_at-filter stay p.peers i s h.rising e in
      settle-IsClosed (filter stay p.peers) (λ i j s t g es et gs gt q. a.groups i j s t g (was i s es) (was j t et) gs gt q) (λ j t g e gt l. (t, was j t e, gt)) (λ i t g e m. (t, was i t e, inl m))

  -- when mounts are made of a kind
  pub made-IsClosed : (k : Kind) (chosen : ℕ → Bool) → IsClosed P (made k chosen p).peers
  made-IsClosed k chosen =
      subst (IsClosed P) (sym (made-settled p h k chosen))
      (settle-IsClosed (map (changed_peer k chosen p) p.peers)
      (λ i j s t g es et gs gt q. elim (both p h k chosen i j s t g es et gs gt) [
        | inl same ↦ subst P (sym same) q
        | inr old ↦ a.groups i j old.0 old.1 g old.2 old.3 old.4 old.5 q
      ])
      (λ j t g e gt l.
      let o = source p h k chosen j t g e gt in (
        o.0,
        o.1,
        elim o.2 [ inl old ↦ old | inr new ↦ absurd (let eq = new.3 in omega arith) ],
      ))
      (λ i t g e m.
      let o = origin p h k chosen i t e in
      (o.0, o.1, changed-master k (new_group chosen p i) (chosen i) o.0 g (ap (λ (v : State). v.master) (sym o.2) ∙ m))))

  -- the master of a mount outside has no member in the set
  outside : (i : ℕ) (s : State) (m : ℕ) (e : Peer) → state_at p.peers i ≡ Some s → (P i → ⊥) → s.master ≡ Some m → state_at p.peers e.mount ≡ Some e.state → e.state.group ≡ Some m → P e.mount → ⊥
  outside i s m e ei off ms ee ge q = off (a.masters i e.mount s e.state m ei ee ms ge q)

  module _ (f : ℕ → Bool) (within : (i : ℕ) → f i ≡ true → P i) where
    off-outside : (j : ℕ) → (P j → ⊥) → f j ≡ false
    off-outside j out = false_from_ne_true (f j) (λ is. out (within j is))

    abbrev stay : Peer → Bool
    stay e = not (f e.mount)

    staying-state : (i : ℕ) (s : State) → state_at p.peers i ≡ Some s → (P i → ⊥) → state_at (filter stay p.peers) i ≡ Some s
    staying-state i s e off = state_at-without f i p.peers h.rising ∙ ap (λ b. cond b None (state_at p.peers i)) (off-outside i off) ∙ e

    -- a mount outside keeps its state when mounts of the set alone leave
    pub left-outside : (i : ℕ) (s : State) → state_at p.peers i ≡ Some s → (P i → ⊥) → state_at (left f p).peers i ≡ Some s
    unfolding left
    left-outside i s e off = settled-same p.peers (filter stay p.peers) i s (staying-state i s e off) (λ m ms.
        let l = living p.peers m h.rising (h.master_lives i s m e ms) in
        let on : not (f l.0.mount) ≡ true = ap not (off-outside l.0.mount (outside i s m l.0 e off ms l.2 l.3)) in
        any_in (in_group m) l.0 (filter stay p.peers) (in_filtered stay l.0 p.peers l.1 on) (names-is l.0.state.group m l.3))

    -- and when mounts of the set alone are made of a kind
    module _ (k : Kind) where
      changed-outside : (x : Peer) → (P x.mount → ⊥) → changed_peer k f p x ≡ x
      changed-outside x off = ap (λ b. let y : Peer = record { mount = x.mount; state = cond b (changed k (new_group f p x.mount) x.state) x.state } in y) (off-outside x.mount off)

      changed-state : (i : ℕ) (s : State) → state_at p.peers i ≡ Some s → (P i → ⊥) → state_at (map (changed_peer k f p) p.peers) i ≡ Some s
      changed-state i s e off = grind (arith, state_at-map (changed_peer k f p) (λ x. refl) i p.peers, off-outside i off)

      pub made-outside : (i : ℕ) (s : State) → state_at p.peers i ≡ Some s → (P i → ⊥) → state_at (made k f p).peers i ≡ Some s
      unfolding made
      made-outside i s e off = settled-same p.peers (map (changed_peer k f p) p.peers) i s (changed-state i s e off) (λ m ms.
          let l = living p.peers m h.rising (h.master_lives i s m e ms) in
          let same = changed-outside l.0 (outside i s m l.0 e off ms l.2 l.3) in
          any_in (in_group m) l.0 (map (changed_peer k f p) p.peers) (subst (λ x. In x (map (changed_peer k f p) p.peers)) same (in_mapped (changed_peer k f p) l.0 p.peers l.1)) (names-is l.0.state.group m l.3))
