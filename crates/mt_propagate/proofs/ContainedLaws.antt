-- A contained family of namespaces is one whose mounts are with all that receive from them.
use Rattle.std.proofs.Common.{◌≡◌, ℕ, ◌<◌, Bool, true, false, List, Option, Some, None, Result, Ok, Err, refl, sym, ap, ◌∙◌, subst, length, arith}
use Rattle.std.specs.Prelude.{unwrap_or}
use Rattle.std.specs.Option.{option_map}
use Rattle.std.proofs.lemmas.Bool.{true≢false}
use Rattle.mt_skel.specs.Keyed.{rises}
use Rattle.mt_skel.specs.declared.fault.Fault.{Fault}
use Rattle.mt_skel.specs.Outcome.{refusal_of}
use Rattle.mt_mounts.specs.declared.mount.Mount.{Mount}
use Rattle.mt_mounts.specs.declared.mount.Place.{Place}
use Rattle.mt_mounts.specs.Walk.{walk}
use Rattle.mt_mounts.specs.Forest.{mount_at, parent, is_below}
use Rattle.mt_peers.specs.declared.state.State.{State}
use Rattle.mt_peers.specs.declared.state.Kind.{Kind}
use Rattle.mt_peers.specs.Peers.{Peering, mount_of, state_at}
use Rattle.mt_peers.specs.Loss.{left}
use Rattle.mt_peers.specs.Making.{made}
use Rattle.mt_peers.proofs.AlikeLaws.{along}
use Rattle.mt_peers.proofs.ClosedLaws.{IsClosed, reached, same-IsClosed, left-IsClosed, made-IsClosed, left-outside, made-outside}
use Rattle.mt_peers.proofs.ReachLaws.{reaches-self}
use Rattle.mt_propagate.specs.World.{WorldView, state_of, space_of, private}
use Rattle.mt_propagate.specs.WellFormed.{IsWellFormed}
use Rattle.mt_propagate.specs.Contained.{IsContained}
use Rattle.mt_propagate.proofs.CopyRowLaws.{space_is}
use Rattle.mt_propagate.specs.Named.{place_or_nowhere}
use Rattle.mt_propagate.proofs.TreeLaws.{parent-from}
use Rattle.mt_propagate.proofs.WalkLaws.{walked}
use Rattle.mt_propagate.proofs.ShownLaws.{grouped-state, slave-state, mount-state, state-group}

-- the master of a mount is the one that its listed state has
pub master-is : (w : WorldView) (i g : ℕ) (s : State) → state_at w.peering.peers i ≡ Some s → s.master ≡ Some g → (state_of w i).master ≡ Some g
master-is w i g s e is = ap (λ o. (unwrap_or o private).master) e ∙ is

-- a family is contained where its mounts are with all that receive from them, and only there
pub closed : (family : ℕ → Bool) (w : WorldView) → IsContained family w → IsClosed (λ i. family (space_of w i) ≡ true) w.peering.peers
closed family w c = record {
  groups = λ i j s t g es et gs gt q. c.groups j i g (state-group w j g t et gt) (state-group w i g s es gs) q;
  masters = λ i j s t g es et ms gt q. c.chains i j g g (master-is w i g s es ms) (state-group w j g t et gt) q (reaches-self w.peering.peers g);
}

pub contained : (family : ℕ → Bool) (w : WorldView) → rises mount_of w.peering.peers ≡ true → IsClosed (λ i. family (space_of w i) ≡ true) w.peering.peers → IsContained family w
contained family w r a = record {
  groups = λ i j g ei ej q.
      let s = grouped-state w i g ei in
      let t = grouped-state w j g ej in
      a.groups j i t.0 s.0 g t.1 s.1 t.2 s.2 q;
  chains = λ i j m g ei ej q far.
      let s = slave-state w i m ei in
      let t = grouped-state w j g ej in
      reached (λ i. family (space_of w i) ≡ true) w.peering.peers r a i j m g s.0 t.0 s.1 t.1 s.2 t.2 q far;
}

-- each namespace that a mount is in was given out
pub space_low : (w : WorldView) → IsWellFormed w → (i : ℕ) → space_of w i < w.next_space
space_low w h i = go (mount_at w.forest i) refl
  where
    go : (o : Option Mount) → mount_at w.forest i ≡ o → space_of w i < w.next_space
    go None e =
        let zero : space_of w i ≡ 0 = ap (λ (o : Option Mount). unwrap_or (option_map (λ (m : Mount). m.space) o) 0) e in
        let one = h.from_one in
        omega (arith, zero, one.1)
    go (Some m) e =
        let low = h.below i m e in
        let is = space_is w i m e in
        omega (arith, low.3, is)

-- of two families that agree on the namespaces of all mounts, one is contained where the other is
pub alike_contained : (f g : ℕ → Bool) (w : WorldView) → ((i : ℕ) → f (space_of w i) ≡ g (space_of w i)) → IsContained f w → IsContained g w
alike_contained f g w same c = record {
  groups = λ i j x ei ej q. sym (same j) ∙ c.groups i j x ei ej (same i ∙ q);
  chains = λ i j m x ei ej q far. sym (same i) ∙ c.chains i j m x ei ej (same j ∙ q) far;
}

-- where mounts leave, and the others stay in their namespaces
pub left-contained : (family : ℕ → Bool) (w v : WorldView) → IsWellFormed w → IsContained family w → (gone : ℕ → Bool) → v.peering ≡ left gone w.peering → ((i : ℕ) (s : State) → state_at v.peering.peers i ≡ Some s → space_of v i ≡ space_of w i)
    → rises mount_of v.peering.peers ≡ true → IsContained family v
left-contained family w v h c gone is spaces rising =
    contained family v rising
    (same-IsClosed (λ i. family (space_of w i) ≡ true) (λ i. family (space_of v i) ≡ true) v.peering.peers (λ i s e. let same = spaces i s e in (λ q. ap family same ∙ q, λ q. ap family (sym same) ∙ q))
    (subst (λ (p : Peering). IsClosed (λ i. family (space_of w i) ≡ true) p.peers) (sym is) (left-IsClosed (λ i. family (space_of w i) ≡ true) w.peering h.peering (closed family w c) gone)))

-- the state of a mount outside stays where mounts of the family alone leave
pub left-state : (family : ℕ → Bool) (w : WorldView) → IsWellFormed w → IsContained family w → (gone : ℕ → Bool) → ((i : ℕ) → gone i ≡ true → family (space_of w i) ≡ true)
    → (i : ℕ) (m : Mount) → mount_at w.forest i ≡ Some m → family m.space ≡ false → unwrap_or (state_at (left gone w.peering).peers i) private ≡ state_of w i
left-state family w h c gone within i m e off =
    let s = mount-state w.forest w.peering.peers i m h.same_mounts e in
    ap (λ o. unwrap_or o private) (left-outside (λ i. family (space_of w i) ≡ true) w.peering h.peering (closed family w c) gone within i s.0 s.1 (λ q. true≢false (sym q ∙ ap family (space_is w i m e) ∙ off)) ∙ sym s.1)

-- and where they alone are made of a kind
pub made-contained : (family : ℕ → Bool) (w : WorldView) → IsWellFormed w → IsContained family w → (k : Kind) (chosen : ℕ → Bool) → IsClosed (λ i. family (space_of w i) ≡ true) (made k chosen w.peering).peers
made-contained family w h c k chosen = made-IsClosed (λ i. family (space_of w i) ≡ true) w.peering h.peering (closed family w c) k chosen

pub made-state : (family : ℕ → Bool) (w : WorldView) → IsWellFormed w → IsContained family w → (k : Kind) (chosen : ℕ → Bool) → ((i : ℕ) → chosen i ≡ true → family (space_of w i) ≡ true)
    → (i : ℕ) (m : Mount) → mount_at w.forest i ≡ Some m → family m.space ≡ false → unwrap_or (state_at (made k chosen w.peering).peers i) private ≡ state_of w i
made-state family w h c k chosen within i m e off =
    let s = mount-state w.forest w.peering.peers i m h.same_mounts e in
    ap (λ o. unwrap_or o private) (made-outside (λ i. family (space_of w i) ≡ true) w.peering h.peering (closed family w c) chosen within k i s.0 s.1 (λ q. true≢false (sym q ∙ ap family (space_is w i m e) ∙ off)) ∙ sym s.1)

-- what is below a mount is in its namespace
pub below-space : (w : WorldView) → IsWellFormed w → (i j : ℕ) (m : Mount) → mount_at w.forest j ≡ Some m → is_below w.forest i j ≡ true → space_of w i ≡ m.space
below-space w h i j m e b =
    along (parent w.forest) (λ k. space_of w k ≡ m.space) (λ x y here up.
    let r = parent-from w.forest x y up in
    let p = h.forest.placed x r.0 r.1 r.2 r.3 in
    ap (space_of w) (sym r.4) ∙ space_is w r.1.mount p.0 p.1 ∙ p.2 ∙ sym (space_is w x r.0 r.2) ∙ here)
    (length w.forest) j i (space_is w j m e) b

-- a path ends on a mount of its namespace
pub ended-inside : (w : WorldView) → IsWellFormed w → (n : ℕ) (path : List (List ℕ)) → refusal_of (walk w.skel w.forest n path) ≡ None → space_of w (place_or_nowhere (walk w.skel w.forest n path)).mount ≡ n
ended-inside w h n path none = go (walk w.skel w.forest n path) refl none
  where
    go : (r : Result Place Fault) → walk w.skel w.forest n path ≡ r → refusal_of r ≡ None → space_of w (place_or_nowhere r).mount ≡ n
    go (Ok p) is none = let q = (walked w n h path p is).0 in space_is w p.mount q.0 q.1 ∙ q.2
    go (Err f) is none = absurd (cc)
