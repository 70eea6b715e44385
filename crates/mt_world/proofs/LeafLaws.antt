-- A well-formed world stays so where a private mount is added on which none stands.
use Rattle.std.proofs.Common.{◌≡◌, ◌≢◌, ◌⊎◌, ℕ, ◌<◌, ◌≤◌, Bool, true, false, cond, eqb, List, [], ◌∷◌, map, length, Option, Some, None, refl, sym, ap, subst, ◌∙◌, inl, inr, arith}
use Rattle.std.specs.Prelude.{is_none, unwrap_or}
use Rattle.std.specs.List.{filter, list_any}
use Rattle.std.specs.Option.{option_map}
use Rattle.std.proofs.lemmas.Bool.{cases_eq, ne_eqb}
use Rattle.std.proofs.lemmas.Bool.Decides.{nat_tests}
use Rattle.mt_skel.specs.Keyed.{row_at, put}
use Rattle.mt_skel.specs.Skeleton.{Skeleton, directory}
use Rattle.mt_skel.proofs.KeyedLaws.{row_at-put, rises-put}
use Rattle.mt_mounts.specs.declared.mount.Mount.{Mount}
use Rattle.mt_mounts.specs.Forest.{id_of, mount_at}
use Rattle.mt_mounts.proofs.SlotLaws.{row_put_later}
use Rattle.mt_peers.specs.declared.state.State.{State}
use Rattle.mt_peers.specs.Peers.{Peer, mount_of, state_at, in_group}
use Rattle.mt_peers.specs.WellFormed.{IsPeering}
use Rattle.mt_propagate.specs.World.{WorldView, private, state_of, group_of}
use Rattle.mt_propagate.specs.WellFormed.{IsWellFormed, fs_at}
use Rattle.mt_propagate.proofs.AddedLaws.{Fits, forest_more, row_cases, row_stays}
use Rattle.mt_propagate.proofs.DetachedTreeLaws.{trees_stay}
use Rattle.mt_propagate.proofs.JoinLaws.{joined-IsPeering}
use Rattle.mt_propagate.proofs.PrivateLaws.{new_peer}
use Rattle.mt_propagate.proofs.ShownLaws.{state-mount}
use Rattle.mt_world.specs.Leaves.{IsGiven, HasMore, IsGrown, with_leaf}

-- the keys of rows once one was put
put-keys : {X : Type 0} (key : X → ℕ) (x : X) (xs : List X) → map key (put key x xs) ≡ put (λ n. n) (key x) (map key xs)
put-keys key x [] = refl
put-keys key x (y ∷ ys) = grind (arith, nat_tests, put-keys key x ys)

-- what one row passes, one passes once another was put that was not there
any-put : {X : Type 0} (key : X → ℕ) (q : X → Bool) (x : X) (xs : List X) → row_at key (key x) xs ≡ None → list_any q xs ≡ true → list_any q (put key x xs) ≡ true
any-put key q x [] none h = absurd (cc)
any-put key q x (y ∷ ys) none h = grind (arith, nat_tests, any-put key q x ys)

-- a mount that is not there has no state
pub no-state : (ms : List Mount) (es : List Peer) (i : ℕ) → map id_of ms ≡ map mount_of es → mount_at ms i ≡ None → row_at mount_of i es ≡ None
no-state ms es i e n = go (row_at mount_of i es) refl
  where
    go : (o : Option Peer) → row_at mount_of i es ≡ o → o ≡ None
    go None f = refl
    go (Some x) f =
        let m = state-mount ms es i x.state e (ap (option_map (λ (e : Peer). e.state)) f) in
        let v : None ≡ Some m.0 = sym n ∙ m.1 in
        absurd (cc)

-- the states once a private mount has joined
state-put : (es : List Peer) (n i : ℕ) → state_at (put mount_of (new_peer n) es) i ≡ option_map (λ (e : Peer). e.state) (cond (eqb i n) (Some (new_peer n)) (row_at mount_of i es))
state-put es n i = ap (option_map (λ (e : Peer). e.state)) (row_at-put mount_of i (new_peer n) es)

state-cases : (es : List Peer) (n i : ℕ) (t : State) → state_at (put mount_of (new_peer n) es) i ≡ Some t → (t ≡ private) ⊎ (state_at es i ≡ Some t)
state-cases es n i t e = go (eqb i n) (sym (state-put es n i) ∙ e)
  where
    go : (b : Bool) → option_map (λ (e : Peer). e.state) (cond b (Some (new_peer n)) (row_at mount_of i es)) ≡ Some t → (t ≡ private) ⊎ (state_at es i ≡ Some t)
    go true f = inl (cc)
    go false f = inr f

pub state-same : (es : List Peer) (n i : ℕ) → row_at mount_of n es ≡ None → unwrap_or (state_at (put mount_of (new_peer n) es) i) private ≡ unwrap_or (state_at es i) private
state-same es n i none = ap (λ o. unwrap_or o private) (state-put es n i) ∙ elim (cases_eq i n) [
  | inl same ↦
      let absent : row_at mount_of i es ≡ None = ap (λ k. row_at mount_of k es) same ∙ none in
      ap (λ o. unwrap_or (option_map (λ (e : Peer). e.state) (cond (eqb i n) (Some (new_peer n)) o)) private) absent
      ∙ elim (eqb i n) as (λ b. unwrap_or (option_map (λ (e : Peer). e.state) (cond b (Some (new_peer n)) None)) private ≡ private) [ true ↦ refl | false ↦ refl ]
      ∙ ap (λ o. unwrap_or (option_map (λ (e : Peer). e.state) o) private) (sym absent)
  | inr off ↦ ap (λ b. unwrap_or (option_map (λ (e : Peer). e.state) (cond b (Some (new_peer n)) (row_at mount_of i es))) private) (ne_eqb i n off)
]

module _ (w : WorldView) (m : Mount) (h : IsWellFormed w) (fits : Fits w.skel w.forest m) (given : IsGiven w m) where
  absent : row_at mount_of m.id w.peering.peers ≡ None
  absent = no-state w.forest w.peering.peers m.id h.same_mounts fits.absent

  abbrev after : WorldView
  after = with_leaf w m

  peering : IsPeering after.peering
  peering =
      joined-IsPeering w.peering h.peering after.peering (rises-put mount_of (new_peer m.id) w.peering.peers h.peering.rising) (omega arith) (λ g. None) (λ g. 0)
      (λ i t g e is. elim (state-cases w.peering.peers m.id i t e) [
        | inl new ↦ let v : None ≡ Some g = sym (ap (λ (s : State). s.group) new) ∙ is in absurd (cc)
        | inr old ↦ inl (i, t, old, is, refl)
      ]) (λ g m l e. absurd (cc))
      (λ i t g e is. elim (state-cases w.peering.peers m.id i t e) [
        | inl new ↦ let v : None ≡ Some g = sym (ap (λ (s : State). s.master) new) ∙ is in absurd (cc)
        | inr old ↦ any-put mount_of (in_group g) (new_peer m.id) w.peering.peers absent (h.peering.master_lives i t g old is)
      ])
      (λ i t e u. elim (state-cases w.peering.peers m.id i t e) [
        | inl new ↦ (ap (λ (s : State). s.group) new, ap (λ (s : State). s.master) new)
        | inr old ↦ h.peering.unbindable_alone i t old u
      ])

  -- no state changes
  pub leaf-state : (i : ℕ) → state_of after i ≡ state_of w i
  leaf-state i = state-same w.peering.peers m.id i absent

  -- a mount that has a group or a master is another one
  off : (i g : ℕ) → group_of w i ≡ Some g → m.id ≢ i
  off i g e at =
      let gone : state_of w i ≡ private = ap (state_of w) (sym at) ∙ ap (λ o. unwrap_or (option_map (λ (e : Peer). e.state) o) private) absent in
      let v : None ≡ Some g = sym (ap (λ (s : State). s.group) gone) ∙ e in
      absurd (cc)

  off_master : (i g : ℕ) → (state_of w i).master ≡ Some g → m.id ≢ i
  off_master i g e at =
      let gone : state_of w i ≡ private = ap (state_of w) (sym at) ∙ ap (λ o. unwrap_or (option_map (λ (e : Peer). e.state) o) private) absent in
      let v : None ≡ Some g = sym (ap (λ (s : State). s.master) gone) ∙ e in
      absurd (cc)

  same_fs : (i : ℕ) → m.id ≢ i → fs_at after i ≡ fs_at w i
  same_fs i ne = ap (λ o. (directory w.skel (unwrap_or (option_map (λ (m : Mount). m.root) o) 0)).fs) (row_put_later w.forest m i ne)

  -- a private mount more keeps a world well-formed, whatever number that was given out it has
  pub leaf-kept : IsWellFormed after
  leaf-kept = record {
    forest = forest_more w.skel w.forest m h.forest fits;
    peering = peering;
    same_mounts = put-keys id_of m w.forest ∙ ap (put (λ n. n) m.id) h.same_mounts ∙ sym (put-keys mount_of (new_peer m.id) w.peering.peers);
    from_one = h.from_one;
    below = λ i a g. elim (row_cases w.skel w.forest m h.forest fits i a g) [
      | inl new ↦ (
        omega (arith, new.0, given.id.0),
        omega (arith, new.0, given.id.1),
        subst (λ x. 1 ≤ x.space) (sym new.1) given.space.0,
        subst (λ x. x.space < w.next_space) (sym new.1) given.space.1,
        subst (λ x. x.root < length w.skel.directories) (sym new.1) given.root,
      )
      | inr old ↦ h.below i a old
    ];
    group_fs = λ i j g ei ej.
        let oi : group_of w i ≡ Some g = sym (ap (λ (s : State). s.group) (leaf-state i)) ∙ ei in
        let oj : group_of w j ≡ Some g = sym (ap (λ (s : State). s.group) (leaf-state j)) ∙ ej in
        same_fs i (off i g oi) ∙ h.group_fs i j g oi oj ∙ sym (same_fs j (off j g oj));
    master_fs = λ i j g ei ej.
        let oi : (state_of w i).master ≡ Some g = sym (ap (λ (s : State). s.master) (leaf-state i)) ∙ ei in
        let oj : group_of w j ≡ Some g = sym (ap (λ (s : State). s.group) (leaf-state j)) ∙ ej in
        same_fs i (off_master i g oi) ∙ h.master_fs i j g oi oj ∙ sym (same_fs j (off j g oj));
    trees = trees_stay w.skel w.forest (put id_of m w.forest) h.forest.rising (forest_more w.skel w.forest m h.forest fits) (λ i x e root. (i, x, row_stays w.skel w.forest m h.forest fits i x e, refl)) w.trees h.trees;
  }

-- the mounts that pass a test are no fewer once one was put that was not there
filter-put : (t : Mount → Bool) (m : Mount) (ms : List Mount) → mount_at ms m.id ≡ None → length (filter t ms) ≤ length (filter t (put id_of m ms))
filter-put t m [] none = omega arith
filter-put t m (x ∷ ms) none = grind (arith, nat_tests, filter-put t m ms)

count-put : (m : Mount) (ms : List Mount) → mount_at ms m.id ≡ None → length ms ≤ length (put id_of m ms)
count-put m [] none = omega arith
count-put m (x ∷ ms) none = grind (arith, nat_tests, count-put m ms)

-- a world with a leaf more, in which directories were made, has grown
pub leaf-grown : (w : WorldView) (t : Skeleton) (m : Mount) → HasMore w.skel t → mount_at w.forest m.id ≡ None → IsGrown w (with_leaf (record w { skel = t }) m)
leaf-grown w t m more none = record {
  skel = more;
  mounts = λ i x e. row_put_later w.forest m i (λ same. let v : None ≡ Some x = sym none ∙ ap (mount_at w.forest) same ∙ e in absurd (cc)) ∙ e;
  count = count-put m w.forest none;
  spaces = filter-put (λ x. is_none x.place) m w.forest none;
}
