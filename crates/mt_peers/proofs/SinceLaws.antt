-- States and lists that are alike except for some: what a change does not note, and states on their way to others.
use Rattle.std.proofs.Common.{◌≡◌, ℕ, Bool, true, false, cond, not, ◌||◌, List, [], ◌∷◌, ◌++◌, map, None, Some, refl, sym, ap, ◌∙◌, subst, arith, eq-eqb, Option, filter, option_map, option_and_then, nat_eq}
use Rattle.std.proofs.lemmas.Bool.{ne_eqb}
use Rattle.std.proofs.lemmas.Bool.Decides.{nat_tests}
use Rattle.mt_skel.specs.Keyed.{row_at, put, rises, among, without}
use Rattle.mt_skel.proofs.KeyedLaws.{row_at-put, row_at-key, same_rows}
use Rattle.mt_lists.specs.Lists.{ListRow, listed_id, listed_number, with_number}
use Rattle.mt_lists.specs.Log.{AreAlikeBut}
use Rattle.mt_lists.proofs.RowLaws.{same_of, row-with}
use Rattle.mt_lists.proofs.LogLaws.{not-only, alike-noted}
use Rattle.mt_lists.proofs.NumberedLaws.{rises-by}
use Rattle.mt_peers.specs.declared.state.State.{State}
use Rattle.mt_peers.specs.declared.entries.Entry.{Entry}
use Rattle.mt_peers.specs.Peers.{Peer, mount_of, state_at, with_state, Peering, PeersView, peering_of}
use Rattle.mt_peers.specs.Entries.{now_peers, was_peers, is_changed, noted_of}
use Rattle.mt_peers.specs.Listed.{IsListed, IsKeptPeers, MastersLive, peer_group, leader_of}
use Rattle.mt_peers.specs.Members.{group_at, master_at}
use Rattle.mt_peers.proofs.MemberLaws.{state_at-without}
use Rattle.mt_peers.proofs.EntryLaws.{other_state}
use Rattle.mt_peers.proofs.ListedLaws.{group-listed, master-listed}

-- a state that has not changed is the one before the change
pub same_state : (e : Entry) → is_changed e ≡ false → e.was ≡ e.state
same_state e h =
    let g : e.state.group ≡ e.was.group = same_of _ _ (grind arith) in
    let m : e.state.master ≡ e.was.master = same_of _ _ (grind arith) in
    let u : e.state.unbindable ≡ e.was.unbindable = grind arith in
    λ i. record { group = sym g i; master = sym m i; unbindable = sym u i }

module _ (leaving : ℕ → Bool) (i : ℕ) where
  -- the mounts that stay
  abbrev stays : List Entry → List Peer
  stays es = filter (λ (e : Peer). not (leaving e.mount)) (now_peers es)

  -- one entry more
  step : (e : Entry) (es : List Entry) (noted : List Entry) (c : Bool) → (c ≡ false → e.was ≡ e.state)
      → (among (map (λ (x : Entry). x.mount) noted) i ≡ false → state_at (was_peers es) i ≡ state_at (stays es) i)
      → among (map (λ (x : Entry). x.mount) (cond (c || leaving e.mount) (e ∷ noted) noted)) i ≡ false → state_at (was_peers (e ∷ es)) i ≡ state_at (stays (e ∷ es)) i
  step e es noted c same ih h = grind (arith, nat_tests, same, ih)

  pub but_noted : (es : List Entry) → among (noted_of leaving es) i ≡ false → state_at (was_peers es) i ≡ state_at (stays es) i
  but_noted [] h = refl
  but_noted (e ∷ es) h = step e es (filter (λ (x : Entry). is_changed x || leaving x.mount) es) (is_changed e) (same_state e) (but_noted es) h

-- what was noted, and what a change notes
pub known-noted : (leaving : ℕ → Bool) (es : List Entry) (since was now : List Peer) (noted all : List ℕ) → was_peers es ≡ was → filter (λ (e : Peer). not (leaving e.mount)) (now_peers es) ≡ now
    → all ≡ noted ++ noted_of leaving es → AreAlikeBut noted (state_at since) (state_at was) → AreAlikeBut all (state_at since) (state_at now)
known-noted leaving es since was now noted all w s n k =
    alike-noted noted (noted_of leaving es) all (state_at since) (state_at was) (state_at now) n k (λ i e. ap (λ l. state_at l i) (sym w) ∙ but_noted leaving i es e ∙ ap (λ l. state_at l i) s)

pub but_put : (es : List Peer) (x : Peer) → AreAlikeBut (x.mount ∷ []) (state_at es) (state_at (put mount_of x es))
but_put es x i e = ap (option_map (λ (p : Peer). p.state)) (sym (row_at-put mount_of i x es ∙ ap (λ b. cond b (Some x) (row_at mount_of i es)) (ne_eqb i x.mount (not-only x.mount i e))))

pub but_given : (es : List Peer) (k : ℕ) (s : State) → AreAlikeBut (k ∷ []) (state_at es) (state_at (with_state k s es))
but_given es k s i e = sym (other_state k s i es (not-only k i e))

pub but_left : (es : List Peer) (ids : List ℕ) → rises mount_of es ≡ true → AreAlikeBut ids (state_at es) (state_at (without (λ (e : Peer). among ids e.mount) es))
but_left es ids up i h = sym (state_at-without (among ids) i es up ∙ ap (λ b. cond b None (state_at es i)) h)

-- what is kept where the rows and the IDs noted are as they are said to be
pub kept-is : (es fs : List Peer) (members ms slaves ss : List ListRow) (since : List Peer) (noted : List ℕ) (live : Bool) → es ≡ fs → members ≡ ms → slaves ≡ ss → IsListed fs ms ss → AreAlikeBut noted (state_at since) (state_at fs)
    → (live ≡ true → MastersLive fs) → IsKeptPeers es members slaves since noted live
kept-is es fs members ms slaves ss since noted live e m s l k led = rw (e, m, s) (record { listed = l; known = k; led = led })

-- rows of a key and a value are what is found of them
module _ {X V : Type 0} (key : X → ℕ) (value : X → V) (row : ℕ → V → X) (whole : (x : X) → x ≡ row (key x) (value x)) where
  row_of : (xs : List X) (i : ℕ) (o : Option X) → row_at key i xs ≡ o → o ≡ option_map (row i) (option_map value o)
  row_of xs i None e = refl
  row_of xs i (Some x) e = ap (λ y. Some y) (whole x) ∙ ap (λ k. Some (row k (value x))) (row_at-key key i xs x e)

  same_values : (xs ys : List X) → rises key xs ≡ true → rises key ys ≡ true → ((i : ℕ) → option_map value (row_at key i xs) ≡ option_map value (row_at key i ys)) → xs ≡ ys
  same_values xs ys r s e = same_rows key xs ys r s (λ i. row_of xs i (row_at key i xs) refl ∙ ap (option_map (row i)) (e i) ∙ sym (row_of ys i (row_at key i ys) refl))

pub same_states : (es fs : List Peer) → rises mount_of es ≡ true → rises mount_of fs ≡ true → ((i : ℕ) → state_at es i ≡ state_at fs i) → es ≡ fs
same_states es fs r s e = same_values mount_of (λ (e : Peer). e.state) (λ i s. record { mount = i; state = s }) (λ e. refl) es fs r s e

same_numbers : (rows others : List ListRow) → rises listed_id rows ≡ true → rises listed_id others ≡ true → ((i : ℕ) → listed_number rows i ≡ listed_number others i) → rows ≡ others
same_numbers rows others r s e = same_values listed_id (λ (r : ListRow). r.number) (λ i n. record { id = i; number = n }) (λ r. refl) rows others r s e

-- lists that answer as those of the states do are those
pub listed_as : (es fs : List Peer) (old_members old_slaves members slaves : List ListRow) → IsListed es old_members old_slaves → fs ≡ es
    → rises listed_id members ≡ true × ((i : ℕ) → listed_number members i ≡ group_at es i) → rises listed_id slaves ≡ true × ((i : ℕ) → listed_number slaves i ≡ master_at es i) → IsListed fs members slaves
listed_as es fs old_members old_slaves members slaves h e m s =
    subst (λ l. IsListed l members slaves) (sym e)
    (record {
      rising = h.rising;
      members_told =
          same_numbers members old_members m.0 (ap (rises listed_id) h.members_told ∙ rises-by mount_of peer_group es h.rising) (λ i. m.1 i ∙ sym (group-listed es old_members old_slaves h i)) ∙ h.members_told;
      slaves_told =
          same_numbers slaves old_slaves s.0 (ap (rises listed_id) h.slaves_told ∙ rises-by mount_of leader_of es h.rising) (λ i. s.1 i ∙ sym (master-listed es old_members old_slaves h i)) ∙ h.slaves_told;
    })

-- what lists of states have that are alike except for some
pub groups_alike : (es os : List Peer) (ids : List ℕ) (ms ss : List ListRow) → IsListed es ms ss → AreAlikeBut ids (state_at es) (state_at os) → AreAlikeBut ids (listed_number ms) (group_at os)
groups_alike es os ids ms ss h a i e = group-listed es ms ss h i ∙ ap (option_and_then (λ (s : State). s.group)) (a i e)

pub masters_alike : (es os : List Peer) (ids : List ℕ) (ms ss : List ListRow) → IsListed es ms ss → AreAlikeBut ids (state_at es) (state_at os) → AreAlikeBut ids (listed_number ss) (master_at os)
masters_alike es os ids ms ss h a i e = master-listed es ms ss h i ∙ ap (option_and_then (λ (s : State). s.master)) (a i e)

-- the number of an ID that was given one, or none, and those of others
module _ (i : ℕ) (o : Option ℕ) (rows new : List ListRow) (r : rises listed_id rows ≡ true) (given : new ≡ with_number i o rows) where
  -- the row of an ID then
  row_given : (q : ℕ) → row_at listed_id q new ≡ cond (nat_eq q i) (option_map (λ n. record { id = i; number = n }) o) (row_at listed_id q rows)
  row_given q = ap (row_at listed_id q) given ∙ row-with i q o rows r

  pub number_here : listed_number new i ≡ o
  number_here = grind (arith, nat_tests, row_given i)

  pub number_others : AreAlikeBut (i ∷ []) (listed_number rows) (listed_number new)
  number_others q e = ap (option_map (λ (x : ListRow). x.number)) (sym (row_given q ∙ ap (λ b. cond b (option_map (λ n. record { id = i; number = n }) o) (row_at listed_id q rows)) (ne_eqb q i (not-only i q e))))

-- what a mount has once it is given a state
pub put_state : (es : List Peer) (i : ℕ) (s : State) → state_at (put mount_of (record { mount = i; state = s }) es) i ≡ Some s
put_state es i s = grind (arith, nat_tests, row_at-put mount_of i (record { mount = i; state = s }) es)

-- one mount is taken out
module _ (es : List Peer) (k : ℕ) (r : rises mount_of es ≡ true) where
  pub dropped_here : state_at (filter (λ (e : Peer). not (nat_eq k e.mount)) es) k ≡ None
  dropped_here = state_at-without (nat_eq k) k es r ∙ ap (λ b. cond b None (state_at es k)) (eq-eqb k k refl)

  pub dropped_others : AreAlikeBut (k ∷ []) (state_at es) (state_at (filter (λ (e : Peer). not (nat_eq k e.mount)) es))
  dropped_others i n = sym (state_at-without (nat_eq k) i es r ∙ ap (λ b. cond b None (state_at es i)) (ne_eqb k i (λ h. not-only k i n (sym h))))

-- the same of the states that two peers keep
pub alike_seen : {v s w t : PeersView} {os : List Peer} (r : PeersView) (ids : List ℕ) → v ≡ s → peering_of s ≡ peering_of r → w ≡ t → os ≡ w.peers → AreAlikeBut ids (state_at r.peers) (state_at t.peers) → AreAlikeBut ids (state_at v.peers) (state_at os)
alike_seen r ids mine kept theirs other a i e =
    ap (λ (s : PeersView). state_at s.peers i) mine ∙ ap (λ (p : Peering). state_at p.peers i) kept ∙ a i e
    ∙ sym (ap (λ l. state_at l i) other ∙ ap (λ (s : PeersView). state_at s.peers i) theirs)
