-- Mounts that are changed one after the other, and no master settled.
use Rattle.std.proofs.Common.{◌≡◌, ℕ, suc, ◌+◌, ◌<◌, ◌≤◌, Bool, true, false, cond, ◌&&◌, eqb, eqb-true, ltb, List, [], ◌∷◌, ◌++◌, map, drop, length, length-append, length-drop, get_or, get_or-drop, Option, Some, None, refl, sym, ap, ◌∙◌, subst, inl, inr, arith, is_some, nat_eq}
use Rattle.std.specs.List.{list_any, list_all, position_or_len}
use Rattle.std.specs.List.Sorted.{IsNonDecreasing}
use Rattle.std.specs.Option.{option_map, option_map_or, is_none}
use Rattle.std.proofs.lemmas.Bool.{false≢true}
use Rattle.std.proofs.lemmas.Bool.Decides.{nat_tests}
use Rattle.std.proofs.lemmas.List.{drop_more, drop_all}
use Rattle.mt_skel.specs.Keyed.{row_at, rises, among}
use Rattle.mt_skel.proofs.KeyedLaws.{rises-map, row_at-below, all-lower}
use Rattle.mt_skel.proofs.ElementLaws.{In}
use Rattle.mt_peers.specs.declared.state.State.{State}
use Rattle.mt_peers.specs.declared.state.Kind.{Kind}
use Rattle.mt_peers.specs.Peers.{Peer, Peering, mount_of, state_at, with_state}
use Rattle.mt_peers.specs.Making.{changed, changed_peer, is_shared, groupless, new_group}
use Rattle.mt_peers.specs.Few.{unsettled}
use Rattle.mt_peers.proofs.MemberLaws.{some-is, peering, mapped, map-alike, state-in}
use Rattle.mt_peers.proofs.ChangeLaws.{same_change}
use Rattle.mt_peers.proofs.MakingLaws.{among_groupless}
use Rattle.mt_peers.proofs.GoingLaws.{map-same}

-- where a number stands in two lists, one after the other
place-front : (m : ℕ) (xs ys : List ℕ) → list_any (eqb m) xs ≡ true → position_or_len (nat_eq m) (xs ++ ys) ≡ position_or_len (nat_eq m) xs
place-front m [] ys h = absurd (cc)
place-front m (x ∷ xs) ys h = let ih = place-front m xs ys in grind (arith, nat_tests)

place-back : (m : ℕ) (xs ys : List ℕ) → list_any (eqb m) xs ≡ false → position_or_len (nat_eq m) (xs ++ ys) ≡ length xs + position_or_len (nat_eq m) ys
place-back m [] ys h = omega arith
place-back m (x ∷ xs) ys h = let ih = place-back m xs ys in grind (arith, nat_tests)

-- a mount that was made shared has a group, and to be made so again changes nothing
gets-group : (k : Kind) (n : ℕ) (s : State) → is_shared k ≡ true → is_none (changed k n s).group ≡ false
gets-group k n s sh = grind arith

again : (k : Kind) (m n : ℕ) (s : State) → changed k m (changed k n s) ≡ changed k n s
again k m n s = grind arith

-- a mount that is there is in no group
abbrev lacks_group : Option State → Bool
lacks_group o = option_map_or (λ (s : State). is_none s.group) o false

-- of one mount alone, it is the only one that can be counted
module _ (x : ℕ) where
  one-alone : (es : List Peer) → rises mount_of es ≡ true → groupless (nat_eq x) es ≡ cond (lacks_group (state_at es x)) (x ∷ []) []
  one-alone [] up = refl
  one-alone (e ∷ es) up =
      let higher : eqb x e.mount ≡ true → row_at mount_of x es ≡ None = λ is. row_at-below mount_of x es (subst (λ k. list_all (λ y. ltb k (mount_of y)) es ≡ true) (sym (eqb-true x e.mount is)) (grind (arith, nat_tests))) in
      grind (arith, nat_tests, one-alone es (grind (arith, nat_tests)), higher)

-- where no mount of the list is chosen, nothing changes
module _ (k : Kind) (chosen : ℕ → Bool) (p : Peering) (nobody : (e : Peer) → In e p.peers → chosen e.mount ≡ false) where
  unsettled-none : p ≡ unsettled k chosen p
  unsettled-none =
      ap (λ (es : List Peer). peering es p.next) (sym (map-same (changed_peer k chosen p) p.peers (λ e at. grind (arith, nobody e at))))
      ∙ ap (peering (map (changed_peer k chosen p) p.peers)) (grind (arith, none p.peers nobody))
    where
      none : (es : List Peer) → ((e : Peer) → In e es → chosen e.mount ≡ false) → groupless chosen es ≡ []
      none [] off = refl
      none (e ∷ es) off = grind (arith, off e (inl refl), none es (λ y at. off y (inr at)))

-- what is made of one mount
module _ (k : Kind) (x : ℕ) (p : Peering) (up : rises mount_of p.peers ≡ true) where
  pub made-absent : state_at p.peers x ≡ None → p ≡ unsettled k (nat_eq x) p
  made-absent none = unsettled-none k (nat_eq x) p (λ e at. grind (arith, nat_tests, none, state-in p.peers e up at))

  pub made-one : (s : State) → state_at p.peers x ≡ Some s
      → peering (with_state x (changed k p.next s) p.peers) (cond (is_shared k && (true && is_none s.group)) (p.next + 1) p.next) ≡ unsettled k (nat_eq x) p
  made-one s there =
      ap (λ (es : List Peer). peering es (cond (is_shared k && (true && is_none s.group)) (p.next + 1) p.next)) (map-alike (λ (e : Peer). record e { state = cond (eqb x e.mount) (changed k p.next s) e.state }) (changed_peer k (nat_eq x) p) p.peers (λ e at. grind (arith, nat_tests, there, state-in p.peers e up at, one-alone x p.peers up)))
      ∙ ap (peering (map (changed_peer k (nat_eq x) p) p.peers)) (grind (arith, one-alone x p.peers up, there))

-- nothing changes where a mount gets the state that it has, or is not there
given-still : (x : ℕ) (s : State) (es : List Peer) → rises mount_of es ≡ true → ((t : State) → state_at es x ≡ Some t → s ≡ t) → with_state x s es ≡ es
given-still x s es up still =
    map-same (λ (e : Peer). record e { state = cond (eqb x e.mount) s e.state }) es (λ e at. grind (arith, nat_tests, still e.state, state-in es e up at))

pub given-same : (x : ℕ) (s : State) (es : List Peer) → rises mount_of es ≡ true → state_at es x ≡ Some s → with_state x s es ≡ es
given-same x s es up there = given-still x s es up (λ t at. some-is s t (sym there ∙ at))

pub given-absent : (x : ℕ) (s : State) (es : List Peer) → rises mount_of es ≡ true → is_some (state_at es x) ≡ false → with_state x s es ≡ es
given-absent x s es up none = given-still x s es up (λ t at. absurd (false≢true (sym none ∙ ap is_some at)))

-- first one mount, and then those that are not below it
module _ (k : Kind) (x : ℕ) (rest : List ℕ) (low : (i : ℕ) → among rest i ≡ true → x ≤ i) where
  -- a mount once the first is changed, where it would get the number n
  abbrev first_of : (ℕ → ℕ) → Peer → Peer
  first_of n e = record { mount = e.mount; state = cond (eqb x e.mount) (changed k (n e.mount) e.state) e.state }

  split : (n : ℕ → ℕ) (es : List Peer) → rises mount_of es ≡ true → is_shared k ≡ true
      → groupless (among (x ∷ rest)) es ≡ groupless (nat_eq x) es ++ groupless (among rest) (map (first_of n) es)
  split n [] up sh = refl
  split n (e ∷ es) up sh =
      let alone : eqb x e.mount ≡ false → among rest e.mount ≡ true → groupless (nat_eq x) es ≡ [] = λ off at.
      let l = low e.mount at in
      let less : x < e.mount = grind (arith, nat_tests) in
      one-alone x es (grind (arith, nat_tests))
      ∙ ap (λ o. cond (lacks_group (option_map (λ (e : Peer). e.state) o)) (x ∷ []) []) (row_at-below mount_of x es (all-lower mount_of x e.mount es less (grind (arith, nat_tests)))) in
      grind (arith, alone, gets-group k (n e.mount) e.state sh, split n es (grind (arith, nat_tests)) sh)

  module _ (p : Peering) (up : rises mount_of p.peers ≡ true) where
    abbrev front : List ℕ
    front = groupless (nat_eq x) p.peers

    abbrev back : List ℕ
    back = groupless (among rest) (map (changed_peer k (nat_eq x) p) p.peers)

    parts : is_shared k ≡ true → groupless (among (x ∷ rest)) p.peers ≡ front ++ back
    parts sh = split (new_group (nat_eq x) p) p.peers up sh

    -- the number of the first
    number-first : (e : Peer) → In e p.peers → eqb x e.mount ≡ true → is_shared k ≡ true → is_none e.state.group ≡ true → new_group (nat_eq x) p e.mount ≡ new_group (among (x ∷ rest)) p e.mount
    number-first e at is sh alone =
        let none : e.state.group ≡ None = grind (arith, alone) in
        let there = among_groupless (nat_eq x) p.peers e.mount e.state (state-in p.peers e up at) is none in
        ap (λ n. p.next + n) (sym (place-front e.mount front back there)) ∙ ap (λ (xs : List ℕ). p.next + position_or_len (nat_eq e.mount) xs) (sym (parts sh))

    -- the number of another
    number-later : (m : ℕ) → eqb x m ≡ false → is_shared k ≡ true → new_group (among rest) (unsettled k (nat_eq x) p) m ≡ new_group (among (x ∷ rest)) p m
    number-later m off sh = grind (arith, place-back m front back (grind (arith, nat_tests, one-alone x p.peers up)), parts sh)

    step-peer : (e : Peer) → In e p.peers → changed_peer k (among rest) (unsettled k (nat_eq x) p) (changed_peer k (nat_eq x) p e) ≡ changed_peer k (among (x ∷ rest)) p e
    step-peer e at =
        let first : eqb x e.mount ≡ true → changed k (new_group (nat_eq x) p e.mount) e.state ≡ changed k (new_group (among (x ∷ rest)) p e.mount) e.state = λ is. same_change k _ _ e.state (number-first e at is) in
        let later : eqb x e.mount ≡ false → changed k (new_group (among rest) (unsettled k (nat_eq x) p) e.mount) e.state ≡ changed k (new_group (among (x ∷ rest)) p e.mount) e.state =
        λ is. same_change k _ _ e.state (λ sh alone. number-later e.mount is sh) in
        grind (arith, first, later, λ (m n : ℕ). again k m n e.state)

    pub step : unsettled k (among rest) (unsettled k (nat_eq x) p) ≡ unsettled k (among (x ∷ rest)) p
    step =
        ap (λ (es : List Peer). peering es (unsettled k (among rest) (unsettled k (nat_eq x) p)).next)
        (mapped (changed_peer k (among rest) (unsettled k (nat_eq x) p)) (changed_peer k (nat_eq x) p) p.peers ∙ map-alike (λ e. changed_peer k (among rest) (unsettled k (nat_eq x) p) (changed_peer k (nat_eq x) p e)) (changed_peer k (among (x ∷ rest)) p) p.peers step-peer)
        ∙ ap (peering (map (changed_peer k (among (x ∷ rest)) p) p.peers)) (grind (arith, λ (sh : is_shared k ≡ true). parts sh, length-append front back))

-- none below the first
lowest : (x d : ℕ) (rest : List ℕ) → ((j : ℕ) → j < length rest → x ≤ get_or rest j d) → (i : ℕ) → among rest i ≡ true → x ≤ i
lowest x d [] all i h = absurd (cc)
lowest x d (y ∷ ys) all i h =
    let first = all 0 (omega arith) in
    let ih = lowest x d ys (λ j l. all (suc j) (omega (arith, l))) i in
    grind (arith, nat_tests)

low-drop : (ids : List ℕ) (i d : ℕ) → IsNonDecreasing ids → i < length ids → (j : ℕ) → among (drop (i + 1) ids) j ≡ true → get_or ids i d ≤ j
low-drop ids i d up l =
    lowest (get_or ids i d) d (drop (i + 1) ids)
    (λ j k. let long = length-drop (i + 1) ids in let high = up i (i + 1 + j) d (omega arith) (omega (arith, k, long)) in subst (λ v. get_or ids i d ≤ v) (sym (get_or-drop (i + 1) ids j d)) high)

-- one mount more is changed, at the end of the list none is left to change, and the mounts rise as before
pub each-step : (k : Kind) (ids : List ℕ) (i d : ℕ) (p q all : Peering) → IsNonDecreasing ids → i < length ids → rises mount_of p.peers ≡ true → q ≡ unsettled k (nat_eq (get_or ids i d)) p
    → unsettled k (among (drop i ids)) p ≡ all → unsettled k (among (drop (i + 1) ids)) q ≡ all
each-step k ids i d p q all sorted l up one told =
    ap (unsettled k (among (drop (i + 1) ids))) one
    ∙ step k (get_or ids i d) (drop (i + 1) ids) (low-drop ids i d sorted l) p up
    ∙ ap (λ (t : List ℕ). unsettled k (among t) p) (sym (drop_more ids i d l))
    ∙ told

pub each-end : (k : Kind) (ids : List ℕ) (i : ℕ) (p : Peering) → length ids ≤ i → p ≡ unsettled k (among (drop i ids)) p
each-end k ids i p l = unsettled-none k (among []) p (λ e at. refl) ∙ ap (λ (t : List ℕ). unsettled k (among t) p) (sym (drop_all i ids l))

pub each-rises : (k : Kind) (chosen : ℕ → Bool) (p q : Peering) → q ≡ unsettled k chosen p → rises mount_of p.peers ≡ true → rises mount_of q.peers ≡ true
each-rises k chosen p q e up = ap (λ (r : Peering). rises mount_of r.peers) e ∙ rises-map mount_of (changed_peer k chosen p) (λ e. refl) p.peers ∙ up
