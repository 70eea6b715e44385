-- The lists of members and of slaves, and what a change of the states makes of them.
use Rattle.std.proofs.Common.{◌≡◌, ℕ, zero, suc, ◌+◌, ◌<◌, Bool, true, not, List, [], ◌∷◌, ◌++◌, map, take, drop, length, get_or, append_assoc, Option, Some, None, refl, sym, ap, ◌∙◌, subst, arith, is_some, nat_lt, filter, find}
use Rattle.std.specs.Option.{option_map, option_map_or, option_and_then}
use Rattle.std.proofs.lemmas.Bool.Decides.{nat_tests}
use Rattle.std.proofs.lemmas.List.{drop_more, map_more}
use Rattle.mt_skel.specs.Keyed.{row_at, put, rises, without}
use Rattle.mt_skel.proofs.KeyedLaws.{rises-put, rises-filter}
use Rattle.mt_skel.proofs.MiddleLaws.{put_mid}
use Rattle.mt_lists.specs.Lists.{ListRow, listed_number, ids, first, above, next_of, with_number}
use Rattle.mt_lists.specs.Numbered.{rows_by}
use Rattle.mt_lists.proofs.NumberedLaws.{ids-by, number-by, put-by, changed-by}
use Rattle.mt_peers.specs.declared.state.State.{State}
use Rattle.mt_peers.specs.declared.entries.Entry.{Entry}
use Rattle.mt_peers.specs.Peers.{Peer, Peering, PeersView, peering_of, mount_of, state_at, with_state, in_group, has_member, names, members, slaves}
use Rattle.mt_peers.specs.Masters.{master_of}
use Rattle.mt_peers.specs.Members.{group_at, master_at, member_after, slave_after}
use Rattle.mt_peers.specs.Entries.{now_peer, was_peer, now_peers, was_peers}
use Rattle.mt_peers.specs.Listed.{peer_group, leader_of, IsListed, IsKeptPeers, MastersLive}
use Rattle.mt_peers.proofs.MemberLaws.{find_row, rises-alike}
use Rattle.mt_peers.proofs.EntryLaws.{rises-given, given_state, other_state}

-- what the lists of a number answer
module _ (number : Peer → Option ℕ) (es : List Peer) (rows : List ListRow) (told : rows ≡ rows_by mount_of number es) where
  pub ids-listed : (g : ℕ) → ids rows g ≡ map mount_of (filter (λ e. names (number e) g) es)
  ids-listed g = ap (λ r. ids r g) told ∙ ids-by mount_of number es g

  pub number-listed : (i : ℕ) → rises mount_of es ≡ true → listed_number rows i ≡ option_and_then number (row_at mount_of i es)
  number-listed i up = ap (λ r. listed_number r i) told ∙ number-by mount_of number i es up

-- the first of the members is the one that is found
pub first-found : (es : List Peer) (g : ℕ) → first (members es g) ≡ option_map mount_of (find (in_group g) es)
first-found [] g = refl
first-found (x ∷ xs) g = grind (arith, first-found xs g)

stated : (number : State → Option ℕ) (o : Option Peer) → option_and_then (λ (e : Peer). number e.state) o ≡ option_and_then number (option_map (λ (e : Peer). e.state) o)
stated number None = refl
stated number (Some e) = refl

module _ (es : List Peer) (ms ss : List ListRow) (h : IsListed es ms ss) where
  pub group-listed : (i : ℕ) → listed_number ms i ≡ group_at es i
  group-listed i = number-listed peer_group es ms h.members_told i h.rising ∙ stated (λ s. s.group) (row_at mount_of i es)

  pub master-listed : (i : ℕ) → listed_number ss i ≡ master_at es i
  master-listed i = number-listed leader_of es ss h.slaves_told i h.rising ∙ stated (λ s. s.master) (row_at mount_of i es)

  pub members-listed : (g : ℕ) → ids ms g ≡ members es g
  members-listed g = ids-listed peer_group es ms h.members_told g

  pub slaves-listed : (g : ℕ) → ids ss g ≡ slaves es g
  slaves-listed g = ids-listed leader_of es ss h.slaves_told g

  pub member-after-listed : (i : ℕ) → next_of ms i ≡ member_after es i
  member-after-listed i = λ k. option_and_then (λ n. above i (members-listed n k)) (group-listed i k)

  pub slave-after-listed : (i : ℕ) → next_of ss i ≡ slave_after es i
  slave-after-listed i = λ k. option_and_then (λ n. above i (slaves-listed n k)) (master-listed i k)

  -- the master of a group is that of its first member
  pub master-of-listed : (g i : ℕ) → first (ids ms g) ≡ Some i → listed_number ss i ≡ master_of es g
  master-of-listed g i e = grind (arith, master-listed i, first-found es g, members-listed g, λ (x : Peer). find_row g es x h.rising)

  pub no-master-listed : (g : ℕ) → first (ids ms g) ≡ None → master_of es g ≡ None
  no-master-listed g e = grind (arith, first-found es g, members-listed g)

-- a group lives where its list has a member
pub members-live : (es : List Peer) (g : ℕ) → nat_lt 0 (length (members es g)) ≡ has_member es g
members-live [] g = refl
members-live (x ∷ xs) g = grind (arith, nat_tests, members-live xs g)

pub lives-listed : (es : List Peer) (rows : List ListRow) (g : ℕ) → rows ≡ rows_by mount_of peer_group es → nat_lt 0 (length (ids rows g)) ≡ has_member es g
lives-listed es rows g told = ap (λ xs. nat_lt 0 (length xs)) (ids-listed peer_group es rows told g) ∙ members-live es g

-- a mount joins
pub listed-put : (x : Peer) (es : List Peer) (ms ss : List ListRow) → IsListed es ms ss
    → IsListed (put mount_of x es) (with_number x.mount x.state.group ms) (with_number x.mount x.state.master ss)
listed-put x es ms ss h = record {
  rising = rises-put mount_of x es h.rising;
  members_told = ap (with_number x.mount x.state.group) h.members_told ∙ sym (put-by mount_of peer_group x es h.rising);
  slaves_told = ap (with_number x.mount x.state.master) h.slaves_told ∙ sym (put-by mount_of leader_of x es h.rising);
}

-- a mount gets another state
rows-given : (number : State → Option ℕ) (i : ℕ) (s : State) (es : List Peer) → rises mount_of es ≡ true → is_some (state_at es i) ≡ true
    → rows_by mount_of (λ e. number e.state) (with_state i s es) ≡ with_number i (number s) (rows_by mount_of (λ e. number e.state) es)
rows-given number i s es up there =
    changed-by mount_of (λ e. number e.state) es (with_state i s es) i (number s) up (rises-given i s es up)
    (stated number (row_at mount_of i (with_state i s es)) ∙ ap (option_and_then number) (given_state es i s there))
    (λ q ne. stated number (row_at mount_of q (with_state i s es)) ∙ ap (option_and_then number) (other_state i s q es ne) ∙ sym (stated number (row_at mount_of q es)))

pub listed-given : (i : ℕ) (s : State) (es : List Peer) (ms ss : List ListRow) → IsListed es ms ss → is_some (state_at es i) ≡ true
    → IsListed (with_state i s es) (with_number i s.group ms) (with_number i s.master ss)
listed-given i s es ms ss h there = record {
  rising = rises-given i s es h.rising;
  members_told = ap (with_number i s.group) h.members_told ∙ sym (rows-given (λ s. s.group) i s es h.rising there);
  slaves_told = ap (with_number i s.master) h.slaves_told ∙ sym (rows-given (λ s. s.master) i s es h.rising there);
}

-- entries of which some are listed by what they are and the others by what they were
abbrev pub mixed : ℕ → List Entry → List Peer
mixed i es = now_peers (take i es) ++ was_peers (drop i es)

-- each of them is of the same mount
mixed-mounts : (i : ℕ) (es : List Entry) → map mount_of (mixed i es) ≡ map mount_of (now_peers es)
mixed-mounts zero [] = refl
mixed-mounts zero (e ∷ es) = grind (arith, mixed-mounts zero es)
mixed-mounts (suc i) [] = refl
mixed-mounts (suc i) (e ∷ es) = grind (arith, mixed-mounts i es)

mixed-here : (i : ℕ) (es : List Entry) (d : Entry) → i < length es → mixed i es ≡ now_peers (take i es) ++ was_peer (get_or es i d) ∷ was_peers (drop (i + 1) es)
mixed-here i es d l = ap (λ t. now_peers (take i es) ++ was_peers t) (drop_more es i d l)

mixed-next : (es : List Entry) (i : ℕ) (d : Entry) → i < length es → now_peers (take i es) ++ now_peer (get_or es i d) ∷ was_peers (drop (i + 1) es) ≡ mixed (i + 1) es
mixed-next es i d l =
    sym (append_assoc (now_peers (take i es)) (now_peer (get_or es i d) ∷ []) (was_peers (drop (i + 1) es)))
    ∙ ap (λ t. t ++ was_peers (drop (i + 1) es)) (sym (map_more now_peer es i d l))

-- one entry more is listed by what it is
pub mixed-step : (number : Peer → Option ℕ) (es : List Entry) (i : ℕ) (d : Entry) (rows : List ListRow) → i < length es → rises mount_of (now_peers es) ≡ true → rows ≡ rows_by mount_of number (mixed i es)
    → with_number (get_or es i d).mount (number (now_peer (get_or es i d))) rows ≡ rows_by mount_of number (mixed (i + 1) es)
mixed-step number es i d rows l up told =
    let e = get_or es i d in
    let here = mixed-here i es d l in
    let rising : rises mount_of (now_peers (take i es) ++ was_peer e ∷ was_peers (drop (i + 1) es)) ≡ true = ap (rises mount_of) (sym here) ∙ rises-alike mount_of mount_of (mixed i es) (now_peers es) (mixed-mounts i es) ∙ up in
    ap (with_number e.mount (number (now_peer e))) (told ∙ ap (rows_by mount_of number) here)
    ∙ sym (put-by mount_of number (now_peer e) (now_peers (take i es) ++ was_peer e ∷ was_peers (drop (i + 1) es)) rising)
    ∙ ap (rows_by mount_of number) (put_mid mount_of (now_peers (take i es)) (was_peers (drop (i + 1) es)) (was_peer e) (now_peer e) refl rising ∙ mixed-next es i d l)

same-middle : (number : Peer → Option ℕ) (x y : Peer) (xs ys : List Peer) → x.mount ≡ y.mount → number x ≡ number y → rows_by mount_of number (xs ++ x ∷ ys) ≡ rows_by mount_of number (xs ++ y ∷ ys)
same-middle number x y [] ys at same = (λ i. option_map_or (λ n. record { id = at i; number = n } ∷ rows_by mount_of number ys) (same i) (rows_by mount_of number ys))
same-middle number x y (z ∷ xs) ys at same = ap (λ t. option_map_or (λ n. record { id = z.mount; number = n } ∷ t) (number z) t) (same-middle number x y xs ys at same)

-- and one that is what it was
pub mixed-same : (number : Peer → Option ℕ) (es : List Entry) (i : ℕ) (d : Entry) (rows : List ListRow) → i < length es → number (now_peer (get_or es i d)) ≡ number (was_peer (get_or es i d)) → rows ≡ rows_by mount_of number (mixed i es)
    → rows ≡ rows_by mount_of number (mixed (i + 1) es)
mixed-same number es i d rows l same told =
    told ∙ ap (rows_by mount_of number) (mixed-here i es d l)
    ∙ sym (same-middle number (now_peer (get_or es i d)) (was_peer (get_or es i d)) (now_peers (take i es)) (was_peers (drop (i + 1) es)) refl same)
    ∙ ap (rows_by mount_of number) (mixed-next es i d l)

-- mounts are taken out
pub rows-without : (number : Peer → Option ℕ) (gone : ℕ → Bool) (es : List Peer) → rows_by mount_of number (without (λ e. gone e.mount) es) ≡ without (λ (r : ListRow). gone r.id) (rows_by mount_of number es)
rows-without number gone [] = refl
rows-without number gone (e ∷ es) = grind (arith, rows-without number gone es)

pub listed-without : (gone : ℕ → Bool) (es : List Peer) (ms ss : List ListRow) → IsListed es ms ss
    → IsListed (without (λ e. gone e.mount) es) (without (λ (r : ListRow). gone r.id) ms) (without (λ (r : ListRow). gone r.id) ss)
listed-without gone es ms ss h = record {
  rising = rises-filter mount_of (λ (e : Peer). not (gone e.mount)) es h.rising;
  members_told = ap (without (λ (r : ListRow). gone r.id)) h.members_told ∙ sym (rows-without peer_group gone es);
  slaves_told = ap (without (λ (r : ListRow). gone r.id)) h.slaves_told ∙ sym (rows-without leader_of gone es);
}

pub listed-is : (es fs : List Peer) (ms ns ss ts : List ListRow) → es ≡ fs → ms ≡ ns → ss ≡ ts → IsListed fs ns ts → IsListed es ms ss
listed-is es fs ms ns ss ts e f g h = rw (e, f, g) h

-- what is kept of the states that are seen
pub seen : {v s : PeersView} {ms ss : List ListRow} {since : List Peer} {noted : List ℕ} {live : Bool} → v ≡ s → IsKeptPeers v.peers ms ss since noted live → IsKeptPeers s.peers ms ss since noted live
seen {ms = ms} {ss = ss} {since = since} {noted = noted} {live = live} e h = subst (λ (t : PeersView). IsKeptPeers t.peers ms ss since noted live) e h

-- where each master has a member, that may be said
pub kept-led : {v s : PeersView} {p : Peering} {ms ss : List ListRow} {since : List Peer} {noted : List ℕ} {live other : Bool} → v ≡ s → peering_of s ≡ p → MastersLive p.peers
    → IsKeptPeers v.peers ms ss since noted live → IsKeptPeers v.peers ms ss since noted other
kept-led e f l h = record {
  listed = h.listed;
  known = h.known;
  led = λ t. subst MastersLive (sym (ap (λ (s : PeersView). s.peers) e ∙ ap (λ (p : Peering). p.peers) f)) l;
}
