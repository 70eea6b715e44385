-- The mounts below groups: below those of the groups that have none of the others above them, none is missed.
use Rattle.std.proofs.Common.{◌≡◌, ℕ, zero, suc, ◌<◌, Bool, true, false, ◌==◌, eqb-true, eq-eqb, List, length, drop, Option, Some, None, refl, sym, ap, subst, ◌∙◌, inr, arith}
use Rattle.std.specs.Prelude.{nat_eq}
use Rattle.std.specs.List.{list_any, flat_map, filter}
use Rattle.std.specs.Option.{option_map, option_map_or, option_and_then}
use Rattle.mt_skel.specs.Keyed.{among, row_at}
use Rattle.mt_skel.proofs.ChainLaws.{chain-last, chain-step, length-chain}
use Rattle.mt_skel.proofs.ElementLaws.{In, in_any, any_in, row_in, in_flatted, in_filtered, in_mapped, chain_low}
use Rattle.mt_skel.proofs.KeyedLaws.{row_at-key}
use Rattle.mt_skel.proofs.WorklistLaws.{found_all}
use Rattle.mt_peers.specs.declared.state.State.{State}
use Rattle.mt_peers.specs.Peers.{Peer, Peering, mount_of, has_master, names, slaves}
use Rattle.mt_peers.specs.Masters.{master_of, groups_up, masters_up, reaches}
use Rattle.mt_peers.specs.Members.{master_at}
use Rattle.mt_peers.specs.WellFormed.{IsPeering}
use Rattle.mt_peers.proofs.ReachLaws.{reaches-self, reaches-step}
use Rattle.mt_propagate.specs.Turned.{is_below_group}

-- a number of a list is among it
pub in-among : (xs : List ℕ) (x : ℕ) → among xs x ≡ true → In x xs
in-among xs x e = let q = in_any (λ k. nat_eq k x) xs e in subst (λ k. In k xs) (eqb-true q.0 x q.2) q.1

pub among-in : (xs : List ℕ) (x : ℕ) → In x xs → among xs x ≡ true
among-in xs x e = any_in (λ k. nat_eq k x) x xs e (eq-eqb x x refl)

-- a mount is listed with the slaves of its master
pub slave-in : (es : List Peer) (i m : ℕ) → master_at es i ≡ Some m → In i (slaves es m)
slave-in es i m e = go (row_at mount_of i es) refl e
  where
    go : (o : Option Peer) → row_at mount_of i es ≡ o → option_and_then (λ (s : State). s.master) (option_map (λ (p : Peer). p.state) o) ≡ Some m → In i (slaves es m)
    go None is f = absurd (let x : None ≡ Some m = f in cc)
    go (Some p) is f =
        let led : has_master m p ≡ true = ap (λ o. names o m) f ∙ eq-eqb m m refl in
        subst (λ k. In k (slaves es m)) (row_at-key mount_of i es p is) (in_mapped mount_of p (filter (has_master m) es) (in_filtered (has_master m) p es (row_in mount_of i es p is) led))

-- a mount is below a group if its master is reached from there
pub below-slaves : (es : List Peer) (g : ℕ) (found : List ℕ) → ((h : ℕ) → among found h ≡ reaches es h g) → (i : ℕ) → is_below_group es g i ≡ true → among (flat_map (slaves es) found) i ≡ true
below-slaves es g found all i e = go (master_at es i) refl e
  where
    go : (o : Option ℕ) → master_at es i ≡ o → option_map_or (λ m. reaches es m g) o false ≡ true → among (flat_map (slaves es) found) i ≡ true
    go None is f = absurd (cc)
    go (Some m) is f = among-in (flat_map (slaves es) found) i (in_flatted (slaves es) i m found (in-among found m (all m ∙ f)) (slave-in es i m is))

-- one of these groups is above a group
abbrev pub has_above : List Peer → List ℕ → ℕ → Bool
has_above es gs g = list_any (λ h. list_any (nat_eq h) gs) (masters_up es g)

module _ (p : Peering) (k : IsPeering p) where
  pub reaches-on : (g x h : ℕ) → reaches p.peers g x ≡ true → reaches p.peers x h ≡ true → reaches p.peers g h ≡ true
  reaches-on g x h a b =
      found_all (master_of p.peers) x (λ z. reaches p.peers z h) b (λ z m e r. reaches-step p.peers z m h e (k.no_cycle z) r) (length p.peers) g a

  -- who is above a group comes later on its chain
  later : (g x : ℕ) → In x (masters_up p.peers g) → (reaches p.peers g x ≡ true) × (length (groups_up p.peers x) < length (groups_up p.peers g))
  later g x i = go (master_of p.peers g) refl
    where
      go : (o : Option ℕ) → master_of p.peers g ≡ o → (reaches p.peers g x ≡ true) × (length (groups_up p.peers x) < length (groups_up p.peers g))
      go None e = absurd (subst (λ xs. In x (drop 1 xs)) (chain-last (master_of p.peers) (length p.peers) g e) i)
      go (Some y) e =
          let step = chain-step (master_of p.peers) (length p.peers) g y e (k.no_cycle g) in
          let in_rest : In x (groups_up p.peers y) = subst (λ xs. In x (drop 1 xs)) step i in
          let low =
          chain_low (master_of p.peers) (λ z. length (groups_up p.peers z))
          (λ z m f. length-chain (master_of p.peers) (length p.peers) z m f (k.no_cycle z)) (length p.peers) y x in_rest in
          let less = length-chain (master_of p.peers) (length p.peers) g y e (k.no_cycle g) in (
            any_in (λ j. j == x) x (groups_up p.peers g) (subst (λ xs. In x xs) (sym step) (inr in_rest)) (eq-eqb x x refl),
            omega (arith, low, less),
          )

  -- above each of the groups, or at it, stands one that has none of them above it
  top : (gs : List ℕ) (n g : ℕ) → length (groups_up p.peers g) < n → among gs g ≡ true
      → (h : ℕ) × (among gs h ≡ true) × (has_above p.peers gs h ≡ false) × (reaches p.peers g h ≡ true)
  top gs zero g l e = absurd (omega (arith, l))
  top gs (suc n) g l e = go (has_above p.peers gs g) refl (top gs n)
    where
      turned : (x : ℕ) (xs : List ℕ) → list_any (nat_eq x) xs ≡ true → among xs x ≡ true
      turned x xs f = let q = in_any (nat_eq x) xs f in among-in xs x (subst (λ j. In j xs) (sym (eqb-true x q.0 q.2)) q.1)

      go : (b : Bool) → has_above p.peers gs g ≡ b
          → ((x : ℕ) → length (groups_up p.peers x) < n → among gs x ≡ true → (h : ℕ) × (among gs h ≡ true) × (has_above p.peers gs h ≡ false) × (reaches p.peers x h ≡ true))
          → (h : ℕ) × (among gs h ≡ true) × (has_above p.peers gs h ≡ false) × (reaches p.peers g h ≡ true)
      go false is ih = (g, e, is, reaches-self p.peers g)
      go true is ih =
          let q = in_any (λ h. list_any (nat_eq h) gs) (masters_up p.peers g) is in
          let a = later g q.0 q.1 in
          let a_1 = a.1 in
          let r = ih q.0 (omega (arith, l, a_1)) (turned q.0 gs q.2) in
          (r.0, r.1, r.2, reaches-on g q.0 r.0 a.0 r.3)

  -- so whoever is below one of them is below one that has none of them above it
  pub below-top : (gs : List ℕ) (found : ℕ → Bool) → ((g i : ℕ) → among gs g ≡ true → has_above p.peers gs g ≡ false → is_below_group p.peers g i ≡ true → found i ≡ true)
      → (g i : ℕ) → among gs g ≡ true → is_below_group p.peers g i ≡ true → found i ≡ true
  below-top gs found all g i e b = go (master_at p.peers i) refl b
    where
      t : (h : ℕ) × (among gs h ≡ true) × (has_above p.peers gs h ≡ false) × (reaches p.peers g h ≡ true)
      t = top gs (suc (length (groups_up p.peers g))) g (omega arith) e

      go : (o : Option ℕ) → master_at p.peers i ≡ o → option_map_or (λ m. reaches p.peers m g) o false ≡ true → found i ≡ true
      go None is f = absurd (cc)
      go (Some m) is f = all t.0 i t.1 t.2 (ap (λ o. option_map_or (λ m. reaches p.peers m t.0) o false) is ∙ reaches-on m g t.0 f t.3)
