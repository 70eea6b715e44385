-- What a worklist collects are the targets, and how many looks that takes.
use Rattle.std.proofs.Common.{◌≡◌, ℕ, ◌+◌, ◌*◌, ◌≤◌, Bool, true, false, not, ◌&&◌, ◌==◌, List, [], map, length, Option, Some, None, refl, sym, ap, ◌∙◌, arith, IsPermutation}
use Rattle.std.specs.List.{filter, filter_map}
use Rattle.std.specs.List.Sorted.{IsSorted}
use Rattle.std.specs.Option.{option_map_or, option_and_then, unwrap_or}
use Rattle.std.specs.Ordering.{nat_cmp}
use Rattle.mt_skel.specs.Skeleton.{holds}
use Rattle.mt_skel.specs.Keyed.{rises}
use Rattle.mt_mounts.specs.declared.mount.Place.{Place}
use Rattle.mt_peers.specs.Peers.{Peer, mount_of, in_group, members, names, state_at}
use Rattle.mt_peers.specs.declared.state.State.{State}
use Rattle.mt_peers.specs.Members.{is_own_slave}
use Rattle.mt_peers.proofs.FreeLaws.{looks-free}
use Rattle.mt_peers.specs.WellFormed.{IsPeering}
use Rattle.mt_skel.specs.Counted.{count, occ}
use Rattle.mt_peers.specs.Entered.{gets_above, other_at}
use Rattle.mt_skel.proofs.CountLaws.{count-length}
use Rattle.mt_peers.proofs.ListLaws.{picked-filter}
use Rattle.mt_peers.proofs.ReceivedLaws.{gets, received, looks_at, looks-least, looks-most, looks-ordered, occ-filter, all-collected}
use Rattle.mt_skel.proofs.SortedLaws.{sorted-is}
use Rattle.mt_peers.proofs.SortedLaws.{picked-rise}
use Rattle.mt_peers.proofs.VisitLaws.{length-members}
use Rattle.mt_propagate.specs.World.{WorldView, group_of, private, root_dir}
use Rattle.mt_propagate.specs.Receivers.{gets_from, propagates_to, hits}
use Rattle.mt_propagate.specs.Targets.{is_target, target}
use Rattle.mt_propagate.proofs.RowLaws.{filter-two}

module _ (w : WorldView) (p : Place) (g : ℕ) (home : group_of w p.mount ≡ Some g) where
  same-received : propagates_to w p.mount ≡ received w.peering.peers g p.mount
  same-received = ap (λ o. option_map_or (λ g. filter (λ j. not (p.mount == j)) (map mount_of (filter (gets_from w.peering.peers g) w.peering.peers))) o []) home

  targets : hits w p ≡ filter (is_target w p) (map mount_of (filter (gets w.peering.peers g) w.peering.peers))
  targets =
      ap (filter (λ j. holds w.skel (root_dir w j) p.dir)) same-received
      ∙ filter-two (λ j. holds w.skel (root_dir w j) p.dir) (λ j. not (p.mount == j)) (is_target w p) (λ j. refl) (map mount_of (filter (gets w.peering.peers g) w.peering.peers))

  pub counted-hits : (first ids vs : List ℕ) → rises mount_of w.peering.peers ≡ true → first ≡ filter_map (target w p) (members w.peering.peers g)
      → ((q : ℕ) → occ q ids ≡ occ q first + count (λ e. gets_above w.peering.peers g e && other_at (is_target w p) g q e) w.peering.peers)
      → IsPermutation ids vs → IsSorted nat_cmp vs → vs ≡ hits w p
  counted-hits first ids vs up start more moved sorted =
      let es = w.peering.peers in
      let t : ℕ → Bool = is_target w p in
      let one : first ≡ filter t (members es g) = start ∙ picked-filter t (members es g) in
      sorted-is ids vs (filter t (map mount_of (filter (gets es g) es))) moved sorted
      (λ q.
      more q
      ∙ ap (λ l. occ q l + count (λ e. gets_above es g e && other_at t g q e) es) one
      ∙ ap (λ n. n + count (λ e. gets_above es g e && other_at t g q e) es) (occ-filter es t (in_group g) q)
      ∙ all-collected es g t q)
      (picked-rise es t (gets es g) up)
      ∙ sym targets

  pub all-looks : looks_at w.peering.peers g ≡ length (members w.peering.peers g) + count (gets_above w.peering.peers g) w.peering.peers
  all-looks = ap (λ n. n + count (gets_above w.peering.peers g) w.peering.peers) (sym (length-members w.peering.peers g))

  pub least-looks : length (propagates_to w p.mount) ≤ length (members w.peering.peers g) + count (gets_above w.peering.peers g) w.peering.peers
  least-looks = let n = ap length same-received in let l = looks-least w.peering.peers g p.mount in let a = all-looks in omega arith

  pub bound-looks : rises mount_of w.peering.peers ≡ true → length (members w.peering.peers g) + count (gets_above w.peering.peers g) w.peering.peers ≤ 2 * length (propagates_to w p.mount) + 2
  bound-looks up = let n = ap length same-received in let l = looks-most w.peering.peers g p.mount up in let a = all-looks in omega arith

  pub most-looks : IsPeering w.peering → length (members w.peering.peers g) + count (gets_above w.peering.peers g) w.peering.peers ≤ length (propagates_to w p.mount) + 1
  most-looks h = let n = ap length same-received in let l = looks-ordered w.peering h g p.mount in let a = all-looks in omega arith

  free-state : (o : Option State) → state_at w.peering.peers p.mount ≡ o → (unwrap_or o private).group ≡ Some g → option_map_or (λ g. names (option_and_then (λ (s : State). s.master) o) g) (option_and_then (λ (s : State). s.group) o) false ≡ false
      → (s : State) × (state_at w.peering.peers p.mount ≡ Some s) × (names s.master g ≡ false)
  free-state None is e free = absurd (cc)
  free-state (Some s) is e free = (s, is, sym (ap (λ o. option_map_or (λ g. names s.master g) o false) e) ∙ free)

  pub free-looks : rises mount_of w.peering.peers ≡ true → is_own_slave w.peering.peers p.mount ≡ false
      → length (members w.peering.peers g) + count (gets_above w.peering.peers g) w.peering.peers ≤ 2 * length (propagates_to w p.mount) + 1
  free-looks up free =
      let f = free-state (state_at w.peering.peers p.mount) refl home free in
      let n = ap length same-received in
      let l = looks-free w.peering.peers g up p.mount f.0 f.1 f.2 in
      let a = all-looks in
      omega arith

-- a group has no more members, and no more mounts to which it comes through a master, than there are mounts
pub members-few : (es : List Peer) (g : ℕ) → length (members es g) ≤ length es
members-few es g = let e = length-members es g in let l = count-length (in_group g) es in omega arith

pub above-few : (es : List Peer) (g : ℕ) → count (gets_above es g) es ≤ length es
above-few es g = count-length (gets_above es g) es
