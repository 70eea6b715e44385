-- Where nothing changes outside a contained family of namespaces, each mount outside tells the group above its master that it told.
use Rattle.std.proofs.Common.{◌≡◌, ℕ, Bool, true, false, cond, ◌&&◌, ◌==◌, eqb-true, eq-eqb, Option, Some, None, refl, sym, ap, ◌∙◌}
use Rattle.std.specs.Prelude.{unwrap_or}
use Rattle.std.specs.List.{find}
use Rattle.std.specs.Option.{option_and_then}
use Rattle.std.proofs.lemmas.Bool.{true≢false, false_from_ne_true}
use Rattle.mt_skel.proofs.ElementLaws.{in_any, any_in}
use Rattle.mt_skel.proofs.KeyedLaws.{row_at-key}
use Rattle.mt_skel.proofs.MiddleLaws.{and_first, and_second, and-true}
use Rattle.mt_mounts.specs.declared.mount.Mount.{Mount}
use Rattle.mt_mounts.specs.Forest.{id_of, mount_at, in_space}
use Rattle.mt_peers.specs.declared.state.State.{State}
use Rattle.mt_peers.specs.Peers.{Peer, mount_of, names, state_at}
use Rattle.mt_peers.specs.Masters.{master_of, groups_up}
use Rattle.mt_peers.proofs.MemberLaws.{master_of-is}
use Rattle.mt_peers.proofs.ClosedLaws.{living}
use Rattle.mt_propagate.specs.World.{WorldView, state_of, space_of, private}
use Rattle.mt_propagate.specs.WellFormed.{IsWellFormed}
use Rattle.mt_propagate.specs.FromGroup.{is_seen, from_group}
use Rattle.mt_propagate.specs.Contained.{IsContained, IsSameOutside}
use Rattle.mt_propagate.proofs.JoinLaws.{state_in, state_row}
use Rattle.mt_propagate.proofs.RowLaws.{picked-row, row-picked}
use Rattle.mt_propagate.proofs.ShownLaws.{state-mount, mount-state}
use Rattle.mt_propagate.proofs.CopyRowLaws.{space_is}
use Rattle.mt_propagate.proofs.ContainedLaws.{closed}
use Rattle.mt_propagate.proofs.UpwardLaws.{find-chain}

-- two answers of which each implies the other
pub same-bool : (a b : Bool) → (a ≡ true → b ≡ true) → (b ≡ true → a ≡ true) → a ≡ b
same-bool true b f g = sym (f refl)
same-bool false true f g = g refl
same-bool false false f g = refl

-- the tag of a mount, from its master
abbrev pub tag_of : WorldView → ℕ → Option ℕ → Option ℕ
tag_of w i o = option_and_then (λ m. option_and_then (λ g. cond (g == m) None (Some g)) (find (is_seen w (space_of w i)) (groups_up w.peering.peers m))) o

-- a mount without master has none
pub no-tag : (w : WorldView) (i : ℕ) → (state_of w i).master ≡ None → from_group w i ≡ None
no-tag w i e = ap (tag_of w i) e

-- a group with a member in a namespace is seen there
pub member-seen : (w : WorldView) (k x i : ℕ) (s : State) → state_at w.peering.peers i ≡ Some s → names s.group x ≡ true → space_of w i ≡ k → is_seen w k x ≡ true
member-seen w k x i s e named space =
    let r = state_row w.peering.peers i s e in
    let key = row_at-key mount_of i w.peering.peers r.0 r.2 in
    any_in (λ (p : Peer). names p.state.group x && (space_of w p.mount == k)) r.0 w.peering.peers r.1
    (and-true (names r.0.state.group x) (space_of w r.0.mount == k) (ap (λ (t : State). names t.group x) r.3 ∙ named) (eq-eqb (space_of w r.0.mount) k (ap (space_of w) key ∙ space)))

-- mounts outside stay with their states, and so do the groups that are seen there
module _ (family : ℕ → Bool) (w v : WorldView) (h : IsWellFormed w) (g : IsWellFormed v) (o : IsSameOutside family w v) where
  stays : (i : ℕ) (m : Mount) → mount_at w.forest i ≡ Some m → family m.space ≡ false → mount_at v.forest i ≡ Some m
  stays i m e off =
      (picked-row id_of (in_space m.space) v.forest g.forest.rising i m
      (ap (λ ms. mount_at ms i) (o.mounts m.space off) ∙ row-picked id_of (in_space m.space) w.forest h.forest.rising i m (eq-eqb m.space m.space refl) e)).0

  was : (i : ℕ) (m : Mount) → mount_at v.forest i ≡ Some m → family m.space ≡ false → mount_at w.forest i ≡ Some m
  was i m e off =
      (picked-row id_of (in_space m.space) w.forest h.forest.rising i m
      (ap (λ ms. mount_at ms i) (sym (o.mounts m.space off)) ∙ row-picked id_of (in_space m.space) v.forest g.forest.rising i m (eq-eqb m.space m.space refl) e)).0

  turned-round : IsSameOutside family v w
  turned-round = record { skel = sym o.skel; mounts = λ k off. sym (o.mounts k off); states = λ i m e off. sym (o.states i m (was i m e off) off) }

  listed : (i : ℕ) (m : Mount) (s : State) → mount_at w.forest i ≡ Some m → family m.space ≡ false → state_at w.peering.peers i ≡ Some s → state_at v.peering.peers i ≡ Some s
  listed i m s e off is =
      let t = mount-state v.forest v.peering.peers i m g.same_mounts (stays i m e off) in
      let same : t.0 ≡ s = ap (λ (q : Option State). unwrap_or q private) (sym t.1) ∙ o.states i m e off ∙ ap (λ (q : Option State). unwrap_or q private) is in
      t.1 ∙ ap (λ (x : State). Some x) same

  seen-stays : (k x : ℕ) → family k ≡ false → is_seen w k x ≡ true → is_seen v k x ≡ true
  seen-stays k x off e =
      let q = in_any (λ (p : Peer). names p.state.group x && (space_of w p.mount == k)) w.peering.peers e in
      let i = q.0.mount in
      let at : state_at w.peering.peers i ≡ Some q.0.state = state_in w.peering.peers h.peering.rising q.0 q.1 in
      let m = state-mount w.forest w.peering.peers i q.0.state h.same_mounts at in
      let here : space_of w i ≡ k = eqb-true (space_of w i) k (and_second _ _ q.2) in
      let out : family m.0.space ≡ false = ap family (sym (space_is w i m.0 m.1) ∙ here) ∙ off in
      member-seen v k x i q.0.state (listed i m.0 q.0.state m.1 out at) (and_first _ _ q.2) (space_is v i m.0 (stays i m.0 m.1 out) ∙ sym (space_is w i m.0 m.1) ∙ here)

module _ (family : ℕ → Bool) (w v : WorldView) (h : IsWellFormed w) (g : IsWellFormed v) (c : IsContained family w) (o : IsSameOutside family w v) where
  same-seen : (k x : ℕ) → family k ≡ false → is_seen v k x ≡ is_seen w k x
  same-seen k x off = same-bool (is_seen v k x) (is_seen w k x) (seen-stays family v w g h (turned-round family w v h g o) k x off) (seen-stays family w v h g o k x off)

  -- a group with a member outside
  record IsOut (x : ℕ) : Type 0 where
    id : ℕ
    mount : Mount
    state : State
    at : mount_at w.forest id ≡ Some mount
    out : family mount.space ≡ false
    listed_as : state_at w.peering.peers id ≡ Some state
    member : state.group ≡ Some x

  above : (x : ℕ) (q : IsOut x) → master_of w.peering.peers x ≡ q.state.master
  above x q = master_of-is w.peering.peers h.peering.rising h.peering.one_master q.id q.state x q.listed_as q.member

  same-master : (x : ℕ) → IsOut x → master_of v.peering.peers x ≡ master_of w.peering.peers x
  same-master x q =
      master_of-is v.peering.peers g.peering.rising g.peering.one_master q.id q.state x (listed family w v h g o q.id q.mount q.state q.at q.out q.listed_as) q.member
      ∙ sym (above x q)

  -- the master of a mount outside is one
  master-out : (i : ℕ) (m : Mount) (s : State) (y : ℕ) → mount_at w.forest i ≡ Some m → family m.space ≡ false → state_at w.peering.peers i ≡ Some s → s.master ≡ Some y → IsOut y
  master-out i m s y e off is up =
      let l = living w.peering.peers y h.peering.rising (h.peering.master_lives i s y is up) in
      let q = state-mount w.forest w.peering.peers l.0.mount l.0.state h.same_mounts l.2 in
      record {
        id = l.0.mount;
        mount = q.0;
        state = l.0.state;
        at = q.1;
        out =
            false_from_ne_true (family q.0.space) (λ same.
            let inside = (closed family w c).masters i l.0.mount s l.0.state y is l.2 up l.3 (ap family (space_is w l.0.mount q.0 q.1) ∙ same) in
            true≢false (sym inside ∙ ap family (space_is w i m e) ∙ off));
        listed_as = l.2;
        member = l.3;
      }

  above-out : (x y : ℕ) → IsOut x → master_of w.peering.peers x ≡ Some y → IsOut y
  above-out x y q up = master-out q.id q.mount q.state y q.at q.out q.listed_as (sym (above x q) ∙ up)

  -- and the tag of a mount outside
  pub tag-outside : (i : ℕ) (m : Mount) → mount_at w.forest i ≡ Some m → family m.space ≡ false → from_group v i ≡ from_group w i
  tag-outside i m e off = go (state_of w i).master refl
    where
      go : (a : Option ℕ) → (state_of w i).master ≡ a → from_group v i ≡ from_group w i
      go None is = no-tag v i (ap (λ (s : State). s.master) (o.states i m e off) ∙ is) ∙ sym (no-tag w i is)
      go (Some y) is =
          let s = mount-state w.forest w.peering.peers i m h.same_mounts e in
          let up : s.0.master ≡ Some y = ap (λ (q : Option State). (unwrap_or q private).master) (sym s.1) ∙ is in
          let before = space_is w i m e in
          let after = space_is v i m (stays family w v h g o i m e off) in
          let seen : (x : ℕ) → is_seen v (space_of v i) x ≡ is_seen w (space_of w i) x = λ x. ap (λ k. is_seen v k x) after ∙ same-seen m.space x off ∙ ap (λ k. is_seen w k x) (sym before) in
          let found =
          find-chain (master_of v.peering.peers) (master_of w.peering.peers) (is_seen v (space_of v i)) (is_seen w (space_of w i)) IsOut _
          same-master (λ x q. seen x) above-out h.peering.no_cycle _ y (master-out i m s.0 y e off s.1 up) (g.peering.no_cycle y) in
          ap (tag_of v i) (ap (λ (s : State). s.master) (o.states i m e off) ∙ is)
          ∙ ap (λ o. option_and_then (λ g. cond (g == y) None (Some g)) o) found
          ∙ sym (ap (tag_of w i) is)
