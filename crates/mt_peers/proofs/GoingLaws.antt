-- Changes that settle no master: mounts that leave where no group that is some other's master goes, and others.
use Rattle.std.proofs.lemmas.Bool.Decides.{nat_tests}
use Rattle.std.proofs.Common.{◌≡◌, ℕ, ◌+◌, ◌<◌, ◌≤◌, Bool, true, false, cond, not, ◌||◌, List, [], ◌∷◌, map, drop, length, get_or, Option, Some, None, refl, sym, ap, ◌∙◌, inl, inr, arith, ◌⊎◌, IfSome}
use Rattle.std.specs.List.{filter, list_any, list_all}
use Rattle.std.proofs.lemmas.List.{drop_more, drop_all}
use Rattle.mt_skel.specs.Keyed.{rises, without, among}
use Rattle.mt_skel.proofs.ElementLaws.{In, in_filter, any_in, in_map, in_filtered}
use Rattle.mt_lists.specs.Lists.{ListRow, listed_id, listed_number, ids, first, above, next_of, names, without_row}
use Rattle.mt_lists.proofs.IdLaws.{rising-ids}
use Rattle.mt_lists.proofs.WalkLaws.{rest_from, rest-next, walk-member, walk-falls, next-among}
use Rattle.mt_peers.specs.Peers.{Peer, Peering, mount_of, state_at, in_group, has_master, has_member, members, slaves}
use Rattle.mt_peers.specs.Masters.{master_of}
use Rattle.mt_peers.specs.Loss.{heir, with_master, settle, left}
use Rattle.mt_peers.specs.Listed.{IsListed, MastersLive}
use Rattle.mt_peers.specs.Going.{stays, may_go, keeps, loses_none}
use Rattle.mt_peers.specs.declared.state.State.{State}
use Rattle.mt_peers.specs.declared.state.Kind.{Kind}
use Rattle.mt_peers.specs.declared.state.Kind.TheVariants.{Shared, Private, Slave, Unbindable}
use Rattle.mt_peers.specs.Making.{made, changed, changed_peer, is_shared, groupless, new_group}
use Rattle.mt_peers.specs.Few.{gains, unsettled}
use Rattle.mt_peers.proofs.WayLaws.{passes-first}
use Rattle.mt_peers.proofs.SettleLaws.{settled}
use Rattle.mt_peers.proofs.MemberLaws.{peering, state-in, names-is, member-there}
use Rattle.mt_peers.proofs.ListLaws.{member-group}
use Rattle.mt_peers.proofs.ListedLaws.{group-listed, members-listed, slaves-listed, members-live}
use Rattle.mt_peers.proofs.MakingLaws.{changed-master}
use Rattle.mt_peers.proofs.LeavingLaws.{has-staying}
use Rattle.mt_peers.proofs.LiveLaws.{gained-master, gains-self, gains-shared, has-map}

-- a walk along the list of a number, until one stays
module _ (rows : List ListRow) (n : ℕ) (r : rises listed_id rows ≡ true) (k : ℕ) (here : Option ℕ) (is : here ≡ Some k) (inside : IfSome here (λ j. among (ids rows n) j ≡ true)) where
  -- the walk is at one of them
  met : among (ids rows n) k ≡ true
  met = rw is at inside

  -- and then at the next of them, or at the end
  pub stays-inside : (next : Option ℕ) → next ≡ next_of rows k → IfSome next (λ j. among (ids rows n) j ≡ true)
  stays-inside next e = walk-member k (ids rows n) next (e ∙ next-among rows n k r met)

  -- less is left
  pub stays-smaller : (next : Option ℕ) → next ≡ next_of rows k → length (rest_from next (ids rows n)) < length (rest_from here (ids rows n))
  stays-smaller next e = walk-falls k (ids rows n) here next (rising-ids rows n r) met is (e ∙ next-among rows n k r met)

  module _ (gone : ℕ → Bool) (told : stays gone (rest_from here (ids rows n)) ≡ stays gone (ids rows n)) where
    cut : stays gone (ids rows n) ≡ (not (gone k) || stays gone (rest_from (above k (ids rows n)) (ids rows n)))
    cut = sym told ∙ ap (λ o. stays gone (rest_from o (ids rows n))) is ∙ ap (stays gone) (rest-next k (ids rows n) (rising-ids rows n r) met)

    pub stays-here : gone k ≡ false → true ≡ stays gone (ids rows n)
    stays-here e = sym (cut ∙ ap (λ b. not b || stays gone (rest_from (above k (ids rows n)) (ids rows n))) e)

    pub stays-later : gone k ≡ true → (next : Option ℕ) → next ≡ next_of rows k → stays gone (rest_from next (ids rows n)) ≡ stays gone (ids rows n)
    stays-later e next f = ap (λ o. stays gone (rest_from o (ids rows n))) (f ∙ next-among rows n k r met) ∙ sym (cut ∙ ap (λ b. not b || stays gone (rest_from (above k (ids rows n)) (ids rows n))) e)

-- rows are taken out one after the other
forget-one : (x : ℕ) (rest : List ℕ) (rows : List ListRow) → without (λ (r : ListRow). among rest r.id) (without_row x rows) ≡ without (λ (r : ListRow). among (x ∷ rest) r.id) rows
forget-one x rest [] = refl
forget-one x rest (r ∷ rows) = grind (arith, forget-one x rest rows)

pub forget-step : (ids : List ℕ) (i d : ℕ) (old new : List ListRow) → i < length ids → new ≡ without_row (get_or ids i d) old → without (λ (r : ListRow). among (drop (i + 1) ids) r.id) new ≡ without (λ (r : ListRow). among (drop i ids) r.id) old
forget-step ids i d old new l e =
    ap (without (λ (r : ListRow). among (drop (i + 1) ids) r.id)) e
    ∙ forget-one (get_or ids i d) (drop (i + 1) ids) old
    ∙ ap (λ (t : List ℕ). without (λ (r : ListRow). among t r.id) old) (sym (drop_more ids i d l))

-- where none is taken out, all stay
pub all_stay : {X : Type 0} (key : X → ℕ) (xs : List X) → filter (λ x. not (among [] (key x))) xs ≡ xs
all_stay key [] = refl
all_stay key (x ∷ xs) = ap (λ t. x ∷ t) (all_stay key xs)

pub forget-end : (ids : List ℕ) (i : ℕ) (rows : List ListRow) → length ids ≤ i → without (λ (r : ListRow). among (drop i ids) r.id) rows ≡ rows
forget-end ids i rows l = ap (λ (t : List ℕ). without (λ (r : ListRow). among t r.id) rows) (drop_all i ids l) ∙ all_stay listed_id rows

-- who stays, in a list and among all
stays-picked : (gone : ℕ → Bool) (s : Peer → Bool) (es : List Peer) → stays gone (map mount_of (filter s es)) ≡ list_any s (filter (λ (e : Peer). not (gone e.mount)) es)
stays-picked gone s [] = refl
stays-picked gone s (e ∷ es) = grind (arith, stays-picked gone s es)

pub all-among : (t : ℕ → Bool) (xs : List ℕ) (j : ℕ) → list_all t xs ≡ true → among xs j ≡ true → t j ≡ true
all-among t [] j all at = absurd (cc)
all-among t (x ∷ xs) j all at = grind (arith, nat_tests, all-among t xs j)

-- a group that lives is its own heir
pub heir-stays : (old new : List Peer) (m : Option ℕ) → ((g : ℕ) → m ≡ Some g → has_member new g ≡ true) → heir old new m ≡ m
heir-stays old new None f = refl
heir-stays old new (Some g) f = passes-first (has_member new) (master_of old) (length old) g (f g refl)

pub map-same : (f : Peer → Peer) (xs : List Peer) → ((e : Peer) → In e xs → f e ≡ e) → map f xs ≡ xs
map-same f [] same = refl
map-same f (x ∷ xs) same = (λ i. same x (inl refl) i ∷ map-same f xs (λ e at. same e (inr at)) i)

module _ (p : Peering) (live : MastersLive p.peers) (them : List ℕ) (ms ss : List ListRow) (l : IsListed p.peers ms ss) where
  abbrev pub staying : List Peer
  staying = without (λ (e : Peer). among them e.mount) p.peers

  -- what was asked of a first member is asked of its group
  listed-first : (g j : ℕ) (rest : List ℕ) → members p.peers g ≡ j ∷ rest → (listed_number ms j ≡ Some g) × (names (first (ids ms g)) j ≡ true)
  listed-first g j rest is =
      let listed : among (members p.peers g) j ≡ true = grind (arith, nat_tests, is) in
      (group-listed p.peers ms ss l j ∙ member-group p.peers g j l.rising listed, grind (arith, nat_tests, members-listed p.peers ms ss l g))

  -- a group that has members keeps one, where its first member stays or something stays of which it is asked
  some-stays : (g : ℕ) → has_member p.peers g ≡ true → ((j : ℕ) (rest : List ℕ) → members p.peers g ≡ j ∷ rest → among them j ≡ true → stays (among them) (members p.peers g) ≡ true) → has_member staying g ≡ true
  some-stays g has asked = sym (stays-picked (among them) (in_group g) p.peers) ∙ go (members p.peers g) refl
    where
      go : (xs : List ℕ) → members p.peers g ≡ xs → stays (among them) (members p.peers g) ≡ true
      go [] is = grind (arith, nat_tests, has, members-live p.peers g)
      go (j ∷ rest) is = grind (arith, asked j rest is)

  -- what a first member answers that is lost
  pub kept : list_all (keeps ms (among them)) them ≡ true → (g : ℕ) → has_member p.peers g ≡ true → has_member staying g ≡ true
  kept ok g has = some-stays g has (λ j rest is on.
      let f = listed-first g j rest is in
      grind (arith, members-listed p.peers ms ss l g, f, all-among (keeps ms (among them)) them j ok on))

  module _ (ok : list_all (may_go ms ss (among them)) them ≡ true) where
    -- the master of a mount that stays keeps a member
    pub keeps-member : (e : Peer) (g : ℕ) → In e staying → e.state.master ≡ Some g → has_member staying g ≡ true
    keeps-member e g at is =
        let old = in_filter (λ (e : Peer). not (among them e.mount)) e p.peers at in
        let state : state_at p.peers e.mount ≡ Some e.state = state-in p.peers e l.rising old.0 in
        let slave : stays (among them) (slaves p.peers g) ≡ true = stays-picked (among them) (has_master g) p.peers ∙ any_in (has_master g) e staying at (names-is e.state.master g is) in
        some-stays g (live.lives e.mount e.state g state is) (λ j rest is on.
        let f = listed-first g j rest is in
        grind (arith, members-listed p.peers ms ss l g, slaves-listed p.peers ms ss l g, f, slave, all-among (may_go ms ss (among them)) them j ok on))

    pub going : left (among them) p ≡ record { peers = staying; next = p.next }
    unfolding left settle
    going =
        ap (λ (es : List Peer). peering es p.next)
        (map-same (settled p.peers staying) staying (λ e at. ap (λ m. record { mount = e.mount; state = with_master e.state m }) (heir-stays p.peers staying e.state.master (λ g is. keeps-member e g at is))))

-- mounts that are made of a kind, where each master keeps a member
module _ (p : Peering) (ids : List ℕ) where
  -- each master has a member then
  settled-none : (k : Kind) → ((e : Peer) → In e p.peers → (g : ℕ) → (changed_peer k (among ids) p e).state.master ≡ Some g → has_member (map (changed_peer k (among ids) p) p.peers) g ≡ true)
      → made k (among ids) p ≡ unsettled k (among ids) p
  unfolding made settle
  settled-none k lives =
      ap (λ (es : List Peer). peering es (cond (is_shared k) (p.next + length (groupless (among ids) p.peers)) p.next))
      (map-same (settled p.peers (map (changed_peer k (among ids) p) p.peers)) (map (changed_peer k (among ids) p) p.peers) (λ e at.
      let x = in_map (changed_peer k (among ids) p) e p.peers at in
      ap (λ m. record { mount = e.mount; state = with_master e.state m })
      (heir-stays p.peers (map (changed_peer k (among ids) p) p.peers) e.state.master (λ g is. lives x.0 x.1 g (ap (λ (y : Peer). y.state.master) x.2 ∙ is)))))

  module _ (live : MastersLive p.peers) (ms ss : List ListRow) (l : IsListed p.peers ms ss) where
    shared-none : (k : Kind) → is_shared k ≡ true → made k (among ids) p ≡ unsettled k (among ids) p
    shared-none k sh =
        let keep : (e : Peer) → In e p.peers → gains e.state (changed_peer k (among ids) p e).state ≡ true = λ e at. grind (arith, gains-shared k (new_group (among ids) p e.mount) e.state sh, gains-self e.state) in
        settled-none k (λ e at g is.
        let master = gained-master e.state (changed_peer k (among ids) p e).state (keep e at) ∙ is in
        has-map (changed_peer k (among ids) p) (λ e. refl) g p.peers keep (live.lives e.mount e.state g (state-in p.peers e l.rising at) master))

    alone-none : (k : Kind) → ((n : ℕ) (s : State) → (changed k n s).group ≡ None) → ((n : ℕ) (s : State) → (changed k n s).master ≡ None) → list_all (may_go ms ss (among ids)) ids ≡ true
        → made k (among ids) p ≡ unsettled k (among ids) p
    alone-none k lost free ok = settled-none k (λ e at g is.
        let staying_state : among ids e.mount ≡ false → In e (staying p live ids ms ss l) = λ off. in_filtered (λ (e : Peer). not (among ids e.mount)) e p.peers at (ap not off) in
        has-staying k lost (among ids) p p.peers g ∙ grind (arith, free (new_group (among ids) p e.mount) e.state, λ (off : among ids e.mount ≡ false) (led : e.state.master ≡ Some g). keeps-member p live ids ms ss l ok e g (staying_state off) led))

    slave-none : list_all (keeps ms (among ids)) ids ≡ true → made Slave (among ids) p ≡ unsettled Slave (among ids) p
    slave-none ok = settled-none Slave (λ e at g is. has-staying Slave (λ n s. refl) (among ids) p p.peers g ∙ kept p live ids ms ss l ok g (lives e g (state-in p.peers e l.rising at) (changed-master Slave (new_group (among ids) p e.mount) (among ids e.mount) e.state g is)))
      where
        lives : (e : Peer) (g : ℕ) → state_at p.peers e.mount ≡ Some e.state → (e.state.master ≡ Some g) ⊎ (e.state.group ≡ Some g) → has_member p.peers g ≡ true
        lives e g at (inl led) = live.lives e.mount e.state g at led
        lives e g at (inr own) = member-there g p.peers e.mount e.state at own

    pub local : (k : Kind) → loses_none k ms ss (among ids) ids ≡ true → made k (among ids) p ≡ unsettled k (among ids) p
    local Shared ok = shared-none Shared refl
    local Private ok = alone-none Private (λ n s. refl) (λ n s. refl) ok
    local Slave ok = slave-none ok
    local Unbindable ok = alone-none Unbindable (λ n s. refl) (λ n s. refl) ok
