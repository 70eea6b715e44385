-- A well-formed world stays so where copies of mounts come to be a namespace, and what the copying, done mount by mount, makes of it.
use Rattle.std.proofs.Common.{◌≡◌, ◌⊎◌, ℕ, ◌+◌, ◌<◌, ◌≤◌, Bool, true, false, List, ◌++◌, map, length, Option, Some, None, refl, sym, ap, subst, ◌∙◌, inl, inr, arith}
use Rattle.std.specs.Prelude.{IsTrue}
use Rattle.std.specs.Option.{option_map, option_or, unwrap_or}
use Rattle.std.proofs.lemmas.List.{map-append, length-map}
use Rattle.mt_skel.specs.Keyed.{rises, row_at}
use Rattle.mt_skel.specs.Skeleton.{directory}
use Rattle.mt_skel.proofs.SortedLaws.{rises-keys}
use Rattle.mt_mounts.specs.declared.mount.Mount.{Mount}
use Rattle.mt_mounts.specs.Forest.{id_of, mount_at}
use Rattle.mt_peers.specs.declared.state.State.{State}
use Rattle.mt_peers.specs.Peers.{Peer, mount_of, state_at, peers_of}
use Rattle.mt_peers.specs.WellFormed.{IsPeering}
use Rattle.mt_peers.proofs.AddedLaws.{added-IsPeering}
use Rattle.mt_peers.proofs.MemberLaws.{member-there}
use Rattle.mt_peers.proofs.AlikeLaws.{IsAlike, like-IsAlike}
use Rattle.mt_propagate.specs.World.{WorldView, private}
use Rattle.mt_propagate.specs.WellFormed.{IsWellFormed, fs_at, IsForest}
use Rattle.mt_propagate.proofs.ListedLaws.{map-map}
use Rattle.mt_propagate.proofs.NumberLaws.{climbs}
use Rattle.mt_propagate.proofs.RowLaws.{renamed-row, appended-row}
use Rattle.mt_propagate.proofs.DetachedTreeLaws.{trees_stay}
use Rattle.mt_propagate.proofs.ShownLaws.{shown-alike, groups-show, masters-show, mount-state, state-mount, state-row}
use Rattle.mt_bind.specs.Copying.{peer_of, state_of_copy, with_copies}
use Rattle.mt_bind.proofs.SourceCopyLaws.{AreSources, AreShown, number, copy, copies, among, copy-high, copy-low, old-in, copy-in, row-of, grown, grown-forest}

-- where a world has more states, each is that of a mount that was there, or a new one
pub state-from : (w : WorldView) → IsWellFormed w → (new : List Peer) (i : ℕ) (t : State) → state_at (w.peering.peers ++ new) i ≡ Some t → ((state_at w.peering.peers i ≡ Some t) × (m : Mount) × (mount_at w.forest i ≡ Some m)) ⊎ (state_at new i ≡ Some t)
state-from w h new i t e =
    let row = state-row (w.peering.peers ++ new) i t e in
    let stated : (es : List Peer) → row_at mount_of i es ≡ Some row.0 → state_at es i ≡ Some t = λ es at. ap (option_map (λ (e : Peer). e.state)) at ∙ ap (λ s. Some s) row.2 in
    elim (appended-row mount_of w.peering.peers new i row.0 row.1) [
      | inl old ↦ let m = state-mount w.forest w.peering.peers i t h.same_mounts (stated w.peering.peers old) in inl (stated w.peering.peers old, m.0, m.1)
      | inr made ↦ inr (stated new made)
    ]

-- what a copy's state has of its original's
pub copy-group : (less : Bool) (s : State) (g : ℕ) → (state_of_copy less s).group ≡ Some g → (s.group ≡ Some g) × ((state_of_copy less s).master ≡ s.master)
copy-group less s g e = (grind (arith, e), grind (arith, e))

pub copy-master : (less : Bool) (s : State) (g : ℕ) → (state_of_copy less s).master ≡ Some g → (s.master ≡ Some g) ⊎ (s.group ≡ Some g)
copy-master false s g e = inl e
copy-master true s g e = elim s.group as (λ o. option_or o s.master ≡ Some g → (s.master ≡ Some g) ⊎ (o ≡ Some g)) [ None ↦ λ x. inl x | Some q ↦ λ x. inr x ] e

copy-alone : (less : Bool) (s : State) → (IsTrue s.unbindable → (s.group ≡ None) × (s.master ≡ None)) → IsTrue (state_of_copy less s).unbindable
    → ((state_of_copy less s).group ≡ None) × ((state_of_copy less s).master ≡ None)
copy-alone false s a u = a u
copy-alone true s a u = let b = a u in (refl, ap (λ o. option_or o s.master) b.0 ∙ b.1)

module _ (w : WorldView) (h : IsWellFormed w) (ms : List Mount) (a : AreSources w ms) (s : AreShown w ms) (less : Bool) where
  abbrev new_peer : Mount → Peer
  new_peer m = peer_of w (map id_of ms) less m

  abbrev pub new_peers : List Peer
  new_peers = map (peer_of w (map id_of ms) less) ms

  -- the mount and the state that a new state is of
  pub record IsStateOfCopy (i : ℕ) (t : State) : Type 0 where
    pub source : Mount
    pub state : State
    pub there : mount_at ms source.id ≡ Some source
    pub number : i ≡ number w h ms a source.id
    pub stated : state_at w.peering.peers source.id ≡ Some state
    pub made : t ≡ state_of_copy less state

  pub copy-from : (i : ℕ) (t : State) → state_at new_peers i ≡ Some t → IsStateOfCopy i t
  copy-from i t e =
      let row = state-row new_peers i t e in
      let r = renamed-row id_of mount_of new_peer (number w h ms a) (λ m. refl) ms a.rising i row.0 row.1 in
      let x = s.shows r.0.id r.0 r.1 in
      let u = mount-state w.forest w.peering.peers r.0.id x.0 h.same_mounts x.1 in
      record {
        source = r.0;
        state = u.0;
        there = r.1;
        number = r.3;
        stated = u.1;
        made = sym row.2 ∙ ap (λ (e : Peer). e.state) r.2 ∙ ap (λ o. state_of_copy less (unwrap_or o private)) u.1;
      }

  peer-ids : map id_of (copies w h ms a) ≡ map mount_of new_peers
  peer-ids =
      map-map (copy w h ms a) id_of (λ (m : Mount). number w h ms a m.id) (λ m. refl) ms
      ∙ sym (map-map new_peer mount_of (λ (m : Mount). number w h ms a m.id) (λ m. refl) ms)

  same_ids : map id_of (grown w h ms a) ≡ map mount_of (w.peering.peers ++ new_peers)
  same_ids = map-append id_of w.forest (copies w h ms a) ∙ (λ i. h.same_mounts i ++ peer-ids i) ∙ sym (map-append mount_of w.peering.peers new_peers)

  pub peers-rise : rises mount_of (w.peering.peers ++ new_peers) ≡ true
  peers-rise =
      sym (rises-keys mount_of (w.peering.peers ++ new_peers)) ∙ ap climbs (sym same_ids)
      ∙ rises-keys id_of (grown w h ms a) ∙ (grown-forest w h ms a).rising

  peered : IsPeering (record w.peering { peers = w.peering.peers ++ new_peers })
  peered =
      added-IsPeering w.peering h.peering new_peers peers-rise
      (λ i t g e is.
      let c = copy-from i t e in
      let s = copy-group less c.state g (ap (λ (s : State). s.group) (sym c.made) ∙ is) in
      (c.source.id, c.state, c.stated, s.0, sym s.1 ∙ ap (λ (s : State). s.master) (sym c.made)))
      (λ i t m e is.
      let c = copy-from i t e in
      elim (copy-master less c.state m (ap (λ (s : State). s.master) (sym c.made) ∙ is)) [
        | inl master ↦ h.peering.master_lives c.source.id c.state m c.stated master
        | inr group ↦ member-there m w.peering.peers c.source.id c.state c.stated group
      ])
      (λ i t e u.
      let c = copy-from i t e in
      subst (λ (s : State). (s.group ≡ None) × (s.master ≡ None)) (sym c.made)
      (copy-alone less c.state (h.peering.unbindable_alone c.source.id c.state c.stated) (subst (λ (s : State). IsTrue s.unbindable) c.made u)))

  abbrev fs_of : Option Mount → ℕ
  fs_of o = (directory w.skel (unwrap_or (option_map (λ (m : Mount). m.root) o) 0)).fs

  -- a mount and its copy show one filesystem
  old-fs : (i : ℕ) (m : Mount) → mount_at w.forest i ≡ Some m → fs_at (with_copies w ms less) i ≡ fs_at w i
  unfolding with_copies
  old-fs i m e = ap fs_of (old-in w h ms a i m e ∙ sym e)

  copy-fs : (i : ℕ) (m : Mount) → mount_at ms i ≡ Some m → fs_at (with_copies w ms less) (number w h ms a i) ≡ fs_at w i
  unfolding with_copies
  copy-fs i m e = ap fs_of (copy-in w h ms a i m e) ∙ (s.shows i m e).2

  alike : IsAlike (fs_at (with_copies w ms less)) (with_copies w ms less).peering.peers
  unfolding with_copies
  alike =
      like-IsAlike (fs_at w) (fs_at (with_copies w ms less)) w.peering.peers (w.peering.peers ++ new_peers) (shown-alike w h) (λ i t e. elim (state-from w h new_peers i t e) [
        | inl old ↦ (i, t, old.0, old-fs i old.1 old.2, λ g is. is, λ g is. inl is)
        | inr new ↦
            let c = copy-from i t new in (
              c.source.id,
              c.state,
              c.stated,
              ap (fs_at (with_copies w ms less)) c.number ∙ copy-fs c.source.id c.source c.there,
              λ g is. (copy-group less c.state g (ap (λ (s : State). s.group) (sym c.made) ∙ is)).0,
              λ g is. copy-master less c.state g (ap (λ (s : State). s.master) (sym c.made) ∙ is),
            )
      ])

  given : (i : ℕ) (m : Mount) → mount_at (grown w h ms a) i ≡ Some m
      → (1 ≤ i) × (i < w.next_mount + length ms) × (1 ≤ m.space) × (m.space < w.next_space + 1) × (m.root < length w.skel.directories)
  given i m e = elim (row-of w h ms a i m e) [
    | inl old ↦ let b = h.below i m old in (b.0, omega (arith, b.1), b.2, omega (arith, b.3), b.4)
    | inr c ↦
        let high = copy-high w h ms a c.source.id in
        let low = copy-low w h ms a c.source.id (among w h ms a c.source.id c.source c.there) in
        let is : m.space ≡ w.next_space = ap (λ (m : Mount). m.space) c.made in (
          omega (arith, high, c.number, h.from_one.0),
          omega (arith, low, c.number),
          omega (arith, is, h.from_one.1),
          omega (arith, is),
          subst (λ (m : Mount). m.root < length w.skel.directories) (sym c.made) (s.low c.source.id c.source c.there),
        )
  ]

  -- the copies keep a world well-formed
  pub copies-kept : IsWellFormed (with_copies w ms less)
  unfolding with_copies
  copies-kept = record {
    forest = grown-forest w h ms a;
    peering = peered;
    same_mounts = same_ids;
    from_one = (omega (arith, h.from_one.0), omega (arith, h.from_one.1));
    below = given;
    group_fs = groups-show (with_copies w ms less) alike;
    master_fs = masters-show (with_copies w ms less) alike;
    trees = trees_stay w.skel w.forest (grown w h ms a) h.forest.rising (grown-forest w h ms a) (λ i m e root. (i, m, old-in w h ms a i m e, refl)) w.trees h.trees;
  }

-- the copying done step by step
module _ (w : WorldView) (h : IsWellFormed w) (ms : List Mount) (a : AreSources w ms) (s : AreShown w ms) (less : Bool) where
  -- the copies of the mounts and of their states, made in a world in which at most other namespaces are detached trees
  pub record AreCopies (u : WorldView) (ts : List ℕ) (cs : List Mount) (rs : List (ℕ × State)) : Type 0 where
    pub still : u ≡ record w { trees = ts }
    pub mounts : cs ≡ copies w h ms a
    pub states : peers_of rs ≡ new_peers w h ms a s less

  module _ (u : WorldView) (ts : List ℕ) (cs : List Mount) (rs : List (ℕ × State)) (o : AreCopies u ts cs rs) where
    pub added-forest : IsForest w.skel (u.forest ++ cs)
    added-forest = subst (IsForest w.skel) (λ i. (sym o.still i).forest ++ sym o.mounts i) (grown-forest w h ms a)

    pub added-rise : rises mount_of (u.peering.peers ++ peers_of rs) ≡ true
    added-rise = (λ i. rises mount_of ((o.still i).peering.peers ++ o.states i)) ∙ peers-rise w h ms a s less

    -- together they make the namespace
    pub copies-made : (v : WorldView) → v.forest ≡ u.forest ++ cs → v.peering.peers ≡ u.peering.peers ++ peers_of rs → (v.skel ≡ u.skel) × (v.peering.next ≡ u.peering.next)
        → (v.next_mount ≡ u.next_mount + length cs) × (v.next_space ≡ u.next_space + 1) → v.trees ≡ u.trees → v.locks ≡ u.locks → v ≡ record (with_copies w ms less) { trees = ts }
    unfolding with_copies
    copies-made v forest states same next trees locks =
        let count : length cs ≡ length ms = ap length o.mounts ∙ length-map ms (copy w h ms a) in
        let added : v ≡ record { skel = u.skel; forest = u.forest ++ cs; peering = record { peers = u.peering.peers ++ peers_of rs; next = u.peering.next }; next_mount = u.next_mount + length cs; next_space = u.next_space + 1; trees = u.trees; locks = u.locks } =
        λ i. record { skel = same.0 i; forest = forest i; peering = record { peers = states i; next = same.1 i }; next_mount = next.0 i; next_space = next.1 i; trees = trees i; locks = locks i } in
        added ∙ (λ i. let x = o.still i in record x { forest = x.forest ++ o.mounts i; peering = record x.peering { peers = x.peering.peers ++ o.states i }; next_mount = x.next_mount + count i; next_space = x.next_space + 1 })
