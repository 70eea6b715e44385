-- Where mounts come to stand and namespaces come and go, contained families of namespaces stay contained, and what
-- happens in them changes nothing outside.
use Rattle.std.proofs.Common.{◌≡◌, ◌⊎◌, ℕ, ◌+◌, Bool, true, false, not, ◌==◌, eqb-true, List, [], ◌∷◌, ◌++◌, map, Option, Some, None, Ok, refl, sym, ap, subst, ◌∙◌, inl, inr, arith, append-nil}
use Rattle.std.specs.List.{filter}
use Rattle.std.specs.Prelude.{unwrap_or}
use Rattle.std.specs.Option.{option_map}
use Rattle.std.proofs.lemmas.Bool.{ne_eqb, true≢false}
use Rattle.std.proofs.lemmas.List.Elements.{filter-append}
use Rattle.mt_skel.proofs.ElementLaws.{in_map}
use Rattle.mt_skel.specs.Keyed.{rises, without}
use Rattle.mt_mounts.specs.declared.mount.Mount.{Mount}
use Rattle.mt_mounts.specs.Forest.{id_of, mount_at, in_space}
use Rattle.mt_peers.specs.declared.state.State.{State}
use Rattle.mt_peers.specs.Peers.{Peer, mount_of, state_at}
use Rattle.mt_peers.specs.Loss.{left}
use Rattle.mt_peers.proofs.ClosedLaws.{IsClosed, like-IsClosed}
use Rattle.mt_propagate.specs.World.{WorldView, private, space_of, group_of}
use Rattle.mt_propagate.specs.WellFormed.{IsWellFormed}
use Rattle.mt_propagate.specs.Contained.{only, IsContained, IsSameOutside}
use Rattle.mt_propagate.proofs.ContainedLaws.{closed, contained, left-contained, left-state}
use Rattle.mt_propagate.proofs.CopiedInsideLaws.{copied-contained, copied-outside}
use Rattle.mt_propagate.proofs.CopyRowLaws.{space_is}
use Rattle.mt_propagate.proofs.PrivateLaws.{only-private, rising}
use Rattle.mt_propagate.proofs.RowLaws.{row-first, part-filtered, none-picked}
use Rattle.mt_propagate.proofs.ShownLaws.{grouped-state, state-mount, mount-state, state-row}
use Rattle.mt_propagate.proofs.WalkLaws.{root_fits}
use Rattle.mt_setattr.specs.declared.change.SetWords.{SetWords}
use Rattle.mt_bind.specs.Spaces.{originals, with_space, new_space, copy_space, without_space}
use Rattle.mt_bind.specs.Mounting.{mounted_with, bound, moved}
use Rattle.mt_bind.specs.Copying.{copy_of, with_copies}
use Rattle.mt_bind.specs.Opening.{opened_sources, tree_opened, tree_made}
use Rattle.mt_bind.proofs.AcceptedLaws.{path_end, fs_of, new_space_accepted, tree_made_accepted, opened_accepted, copy_space_accepted}
use Rattle.mt_bind.proofs.SourceCopyLaws.{AreSources, AreShown, old-in, copy-in}
use Rattle.mt_bind.proofs.OpenedSourceLaws.{opened-sources, opened-shown, opened-inside}
use Rattle.mt_bind.proofs.SpaceLaws.{new_root}
use Rattle.mt_bind.proofs.NamespaceCopyLaws.{was-original, originals-are, originals-shown}
use Rattle.mt_bind.proofs.CopyLaws.{state-from, IsStateOfCopy, new_peers, copy-from, copy-group, copy-master, copies-kept}
use Rattle.mt_bind.proofs.GoneLaws.{stays, end-kept}
use Rattle.mt_bind.proofs.MountLaws.{IsCopying, mount_copies, bind_copies, move_copies}

-- where a source tree comes to stand
copying_contained : (family : ℕ → Bool) (n : ℕ) (w v : WorldView) → IsWellFormed w → IsContained family w → IsCopying n w v → IsContained family v
copying_contained family n w v h c m = subst (IsContained family) m.made (copied-contained w h m.src m.dest m.source m.destination family (λ i a q e f _. ap family (m.near i a q e f)) c)

copying_outside : (family : ℕ → Bool) (n : ℕ) (w v : WorldView) → IsWellFormed w → IsContained family w → family n ≡ true → IsCopying n w v → IsSameOutside family w v
copying_outside family n w v h c here m =
    let at = ap family m.here ∙ here in
    subst (IsSameOutside family w) m.made (copied-outside w h m.src m.dest m.source m.destination family (λ i a q e f _. ap family (m.near i a q e f)) c (λ i a q e f. ap family (m.near i a q e f) ∙ at) at)

-- a mount, a bind and a move keep contained families contained, and made in one they change nothing outside it
pub mount_contained : (family : ℕ → Bool) (w : WorldView) (n : ℕ) (name : List ℕ) (path : List (List ℕ)) (set : SetWords) (v : WorldView) (i : ℕ) → IsWellFormed w → IsContained family w → mounted_with w n name path set ≡ Ok (v, i) → IsContained family v
mount_contained family w n name path set v i h c e = copying_contained family n w v h c (mount_copies w n name path set v i h e)

pub mount_outside : (family : ℕ → Bool) (w : WorldView) (n : ℕ) (name : List ℕ) (path : List (List ℕ)) (set : SetWords) (v : WorldView) (i : ℕ) → IsWellFormed w → IsContained family w → family n ≡ true → mounted_with w n name path set ≡ Ok (v, i) → IsSameOutside family w v
mount_outside family w n name path set v i h c here e = copying_outside family n w v h c here (mount_copies w n name path set v i h e)

pub bind_contained : (family : ℕ → Bool) (w : WorldView) (n : ℕ) (recursive : Bool) (from to : List (List ℕ)) (v : WorldView) (i : ℕ) → IsWellFormed w → IsContained family w → bound w n recursive from to ≡ Ok (v, i) → IsContained family v
bind_contained family w n recursive from to v i h c e = copying_contained family n w v h c (bind_copies w n recursive from to v i h e)

pub bind_outside : (family : ℕ → Bool) (w : WorldView) (n : ℕ) (recursive : Bool) (from to : List (List ℕ)) (v : WorldView) (i : ℕ) → IsWellFormed w → IsContained family w → family n ≡ true → bound w n recursive from to ≡ Ok (v, i) → IsSameOutside family w v
bind_outside family w n recursive from to v i h c here e = copying_outside family n w v h c here (bind_copies w n recursive from to v i h e)

pub move_contained : (family : ℕ → Bool) (w : WorldView) (n : ℕ) (from to : List (List ℕ)) (v : WorldView) → IsWellFormed w → IsContained family w → moved w n from to ≡ Ok v → IsContained family v
move_contained family w n from to v h c e = copying_contained family n w v h c (move_copies w n from to v h e)

pub move_outside : (family : ℕ → Bool) (w : WorldView) (n : ℕ) (from to : List (List ℕ)) (v : WorldView) → IsWellFormed w → IsContained family w → family n ≡ true → moved w n from to ≡ Ok v → IsSameOutside family w v
move_outside family w n from to v h c here e = copying_outside family n w v h c here (move_copies w n from to v h e)

-- where a world has more mounts, a contained family stays so if each new state is like that of a mount that was there, in it or not alike
more_contained : (family : ℕ → Bool) (w v : WorldView) → IsWellFormed w → IsContained family w → (new : List Peer) → v.peering.peers ≡ w.peering.peers ++ new → rises mount_of v.peering.peers ≡ true
    → ((i : ℕ) (m : Mount) → mount_at w.forest i ≡ Some m → space_of v i ≡ space_of w i)
    → ((i : ℕ) (t : State) (g : ℕ) → state_at new i ≡ Some t → t.group ≡ Some g → (j : ℕ) × (s : State) × (state_at w.peering.peers j ≡ Some s) × (s.group ≡ Some g) × (family (space_of w j) ≡ true → family (space_of v i) ≡ true) × (family (space_of v i) ≡ true → family (space_of w j) ≡ true))
    → ((i : ℕ) (t : State) (g : ℕ) → state_at new i ≡ Some t → t.master ≡ Some g → (j : ℕ) × (s : State) × (state_at w.peering.peers j ≡ Some s) × ((s.master ≡ Some g) ⊎ (s.group ≡ Some g)) × (family (space_of w j) ≡ true → family (space_of v i) ≡ true))
    → IsContained family v
more_contained family w v h c new all rising stay grouped mastered =
    contained family v rising
    (subst (IsClosed (λ i. family (space_of v i) ≡ true)) (sym all)
    (like-IsClosed (λ i. family (space_of w i) ≡ true) (λ i. family (space_of v i) ≡ true) w.peering.peers (w.peering.peers ++ new) (closed family w c)
    (λ i t g e is. elim (state-from w h new i t e) [
      | inl old ↦ let same = ap family (stay i old.1 old.2) in (i, t, old.0, is, λ q. same ∙ q, λ q. sym same ∙ q)
      | inr made ↦ grouped i t g made is
    ])
    (λ i t g e is. elim (state-from w h new i t e) [
      | inl old ↦ let same = ap family (stay i old.1 old.2) in (i, t, old.0, inl is, λ q. same ∙ q)
      | inr made ↦ mastered i t g made is
    ])))

-- a new namespace has a private mount
space_contained : (family : ℕ → Bool) (w : WorldView) (fs : ℕ) → IsWellFormed w → IsContained family w → IsContained family (with_space w fs)
unfolding with_space
space_contained family w fs h c =
    more_contained family w (with_space w fs) h c (record { mount = w.next_mount; state = private } ∷ []) refl (rising w (new_root w fs) (w.next_space + 1) h (root_fits w (new_root w fs) h refl refl refl) refl)
    (λ i m e. ap (λ o. unwrap_or (option_map (λ (m : Mount). m.space) o) 0) (row-first id_of w.forest (new_root w fs ∷ []) i m e) ∙ sym (space_is w i m e))
    (λ i t g e is. absurd (let v : None ≡ Some g = sym (ap (λ (s : State). s.group) (only-private w.next_mount i t e)) ∙ is in cc))
    (λ i t g e is. absurd (let v : None ≡ Some g = sym (ap (λ (s : State). s.master) (only-private w.next_mount i t e)) ∙ is in cc))

-- a namespace of copies
module _ (w : WorldView) (h : IsWellFormed w) (ms : List Mount) (a : AreSources w ms) (s : AreShown w ms) (less : Bool) where
  abbrev space : ℕ → ℕ
  space i = space_of (with_copies w ms less) i

  -- the mounts that were there stay in their namespaces, and the copies are in the new one
  old-space : (i : ℕ) (q : Mount) → mount_at w.forest i ≡ Some q → space i ≡ space_of w i
  unfolding with_copies
  old-space i q e = ap (λ o. unwrap_or (option_map (λ (m : Mount). m.space) o) 0) (old-in w h ms a i q e) ∙ sym (space_is w i q e)

  new-space : (i : ℕ) (t : State) → IsStateOfCopy w h ms a s less i t → space i ≡ w.next_space
  unfolding with_copies
  new-space i t c = ap space c.number ∙ ap (λ o. unwrap_or (option_map (λ (m : Mount). m.space) o) 0) (copy-in w h ms a c.source.id c.source c.there)

  -- where the new namespace counts as one of the family exactly where the mounts are of it
  copies_contained : (family : ℕ → Bool) → ((i : ℕ) (m : Mount) → mount_at ms i ≡ Some m → family (space_of w i) ≡ family w.next_space) → IsContained family w → IsContained family (with_copies w ms less)
  unfolding with_copies
  copies_contained family alike c =
      more_contained family w (with_copies w ms less) h c (new_peers w h ms a s less) refl (copies-kept w h ms a s less).peering.rising old-space
      (λ i t g e is.
      let c = copy-from w h ms a s less i t e in
      let s = copy-group less c.state g (ap (λ (s : State). s.group) (sym c.made) ∙ is) in
      let side = alike c.source.id c.source c.there ∙ sym (ap family (new-space i t c)) in
      (c.source.id, c.state, c.stated, s.0, λ q. sym side ∙ q, λ q. side ∙ q))
      (λ i t g e is.
      let c = copy-from w h ms a s less i t e in
      let side = alike c.source.id c.source c.there ∙ sym (ap family (new-space i t c)) in
      (c.source.id, c.state, c.stated, copy-master less c.state g (ap (λ (s : State). s.master) (sym c.made) ∙ is), λ q. sym side ∙ q))

  -- nothing changes outside a family that the new namespace is one of
  copies_outside : (family : ℕ → Bool) → family w.next_space ≡ true → IsSameOutside family w (with_copies w ms less)
  unfolding with_copies
  copies_outside family here = record {
    skel = refl;
    mounts = λ k off.
        filter-append (in_space k) w.forest (map (copy_of w (map id_of ms)) ms)
        ∙ ap (λ l. filter (in_space k) w.forest ++ l)
        (none-picked (in_space k) (map (copy_of w (map id_of ms)) ms) (λ x e.
        let m = in_map (copy_of w (map id_of ms)) x ms e in
        let there : w.next_space ≡ x.space = ap (λ (m : Mount). m.space) m.2 in
        ne_eqb x.space k (λ same. true≢false (sym here ∙ ap family (there ∙ same) ∙ off))))
        ∙ append-nil (filter (in_space k) w.forest);
    states = λ i m e off.
        let t = mount-state w.forest w.peering.peers i m h.same_mounts e in
        let r = state-row w.peering.peers i t.0 t.1 in
        let stated = λ (o : Option Peer). unwrap_or (option_map (λ (e : Peer). e.state) o) private in
        ap stated (row-first mount_of w.peering.peers (new_peers w h ms a s less) i r.0 r.1) ∙ sym (ap stated r.1);
  }

-- less privileged ones have no groups
module _ (w : WorldView) (h : IsWellFormed w) (ms : List Mount) (a : AreSources w ms) (s : AreShown w ms) where
  no_member : {A : Type 0} (i g : ℕ) → group_of (with_copies w ms true) i ≡ Some g → space_of (with_copies w ms true) i ≡ w.next_space → A
  unfolding with_copies
  no_member i g e q =
      let t = grouped-state (with_copies w ms true) i g e in
      elim (state-from w h (new_peers w h ms a s true) i t.0 t.1) [
        | inl old ↦
            let low = h.below i old.1 old.2 in
            absurd (omega (arith, low.3, old-space w h ms a s true i old.1 old.2, space_is w i old.1 old.2, q))
        | inr new ↦ let c = copy-from w h ms a s true i t.0 new in absurd (let v : None ≡ Some g = ap (λ (s : State). s.group) (sym c.made) ∙ t.2 in cc)
      ]

  less_contained : IsContained (only w.next_space) (with_copies w ms true)
  less_contained = record {
    groups = λ i j g ei ej q. no_member i g ei (eqb-true (space_of (with_copies w ms true) i) w.next_space q);
    chains = λ i j u g ei ej q far. no_member j g ej (eqb-true (space_of (with_copies w ms true) j) w.next_space q);
  }

-- where the copy was accepted
pub copied_contained : (family : ℕ → Bool) (w : WorldView) (m : ℕ) (less : Bool) (v : WorldView) (i : ℕ) → IsWellFormed w → IsContained family w → family m ≡ family i → copy_space w m less ≡ Ok (v, i) → IsContained family v
copied_contained family w m less v i h c alike e =
    let made = copy_space_accepted w m less v i e in
    subst (IsContained family) made.world
    (copies_contained w h (originals w m) (originals-are w h m) (originals-shown w h m) less family
    (λ j x f. let o = was-original w h m j x f in ap family (space_is w j x o.0 ∙ o.1) ∙ alike ∙ ap family (sym made.number)) c)

pub copied_outside : (family : ℕ → Bool) (w : WorldView) (m : ℕ) (less : Bool) (v : WorldView) (i : ℕ) → IsWellFormed w → family i ≡ true → copy_space w m less ≡ Ok (v, i) → IsSameOutside family w v
copied_outside family w m less v i h here e =
    let made = copy_space_accepted w m less v i e in
    subst (IsSameOutside family w) made.world (copies_outside w h (originals w m) (originals-are w h m) (originals-shown w h m) less family (ap family made.number ∙ here))

pub less_copied : (w : WorldView) (m : ℕ) (v : WorldView) (n : ℕ) → IsWellFormed w → copy_space w m true ≡ Ok (v, n) → IsContained (only n) v
less_copied w m v n h e =
    let a = copy_space_accepted w m true v n e in
    subst (λ k. IsContained (only k) v) a.number (subst (IsContained (only w.next_space)) a.world (less_contained w h (originals w m) (originals-are w h m) (originals-shown w h m)))

-- an accepted new namespace
pub made_contained : (family : ℕ → Bool) (w : WorldView) (name : List ℕ) (v : WorldView) (i : ℕ) → IsWellFormed w → IsContained family w → new_space w name ≡ Ok (v, i) → IsContained family v
made_contained family w name v i h c e = subst (IsContained family) (new_space_accepted w name v i e).world (space_contained family w (fs_of w name) h c)

-- a detached tree of a filesystem
pub tree_made_contained : (family : ℕ → Bool) (w : WorldView) (name : List ℕ) (v : WorldView) (i : ℕ) → IsWellFormed w → IsContained family w → tree_made w name ≡ Ok (v, i) → IsContained family v
tree_made_contained family w name v i h c e =
    let s = space_contained family w (fs_of w name) h c in
    subst (IsContained family) (tree_made_accepted w name v i e).world (record { groups = s.groups; chains = s.chains })

-- a tree that is opened
pub opened_contained : (family : ℕ → Bool) (w : WorldView) (n : ℕ) (path : List (List ℕ)) (recursive : Bool) (v : WorldView) (i : ℕ) → IsWellFormed w → IsContained family w → family n ≡ family i → tree_opened w n path recursive ≡ Ok (v, i)
    → IsContained family v
opened_contained family w n path recursive v i h c alike e =
    let a = opened_accepted w n path recursive v i e in
    let p = path_end w n path in
    let s =
    copies_contained w h (opened_sources w recursive p) (opened-sources w n path recursive p h a.ended) (opened-shown w n path recursive p h a.ended) false family
    (λ j m f. ap family (opened-inside w n path recursive p h a.ended j m f) ∙ alike ∙ ap family (sym a.number)) c in
    subst (IsContained family) a.world (record { groups = s.groups; chains = s.chains })

pub opened_outside : (family : ℕ → Bool) (w : WorldView) (n : ℕ) (path : List (List ℕ)) (recursive : Bool) (v : WorldView) (i : ℕ) → IsWellFormed w → family i ≡ true → tree_opened w n path recursive ≡ Ok (v, i) → IsSameOutside family w v
opened_outside family w n path recursive v i h here e =
    let a = opened_accepted w n path recursive v i e in
    let p = path_end w n path in
    let s =
    copies_outside w h (opened_sources w recursive p) (opened-sources w n path recursive p h a.ended) (opened-shown w n path recursive p h a.ended) false family (ap family a.number ∙ here) in
    subst (IsSameOutside family w) a.world (record { skel = s.skel; mounts = s.mounts; states = s.states })

-- a namespace that ends
module _ (w : WorldView) (h : IsWellFormed w) (n : ℕ) where
  pub end_contained : (family : ℕ → Bool) → IsContained family w → IsContained family (without_space w n)
  unfolding without_space
  end_contained family c =
      let v = end-kept w h n in
      left-contained family w (without_space w n) h c (λ i. space_of w i == n) refl (λ i s e.
      let m = state-mount (without (λ (m : Mount). m.space == n) w.forest) (left (λ i. space_of w i == n) w.peering).peers i s v.same_mounts e in
      ap (λ o. unwrap_or (option_map (λ (m : Mount). m.space) o) 0) (m.1 ∙ sym (stays w h n i m.0 m.1))) v.peering.rising

  -- nothing outside has a master in it
  pub end_outside : (family : ℕ → Bool) → IsContained family w → family n ≡ true → IsSameOutside family w (without_space w n)
  unfolding without_space
  end_outside family c here = record {
    skel = refl;
    mounts = λ k off.
        part-filtered (in_space k) (λ (m : Mount). not (m.space == n)) w.forest
        (λ m is. ap not (ne_eqb m.space n (λ same. true≢false (sym here ∙ ap family (sym same ∙ eqb-true m.space k is) ∙ off))));
    states = left-state family w h c (λ i. space_of w i == n) (λ i is. ap family (eqb-true (space_of w i) n is) ∙ here);
  }
