-- What is locked is in order where it fits the mounts that are there: what a world's locks tell of each row, and what rows tell of the next world.
use Rattle.std.proofs.Common.{◌≡◌, ◌≢◌, ℕ, ◌<◌, Bool, true, false, cond, ◌&&◌, ◌==◌, eqb, eqb-true, eq-eqb, List, [], ◌∷◌, ◌++◌, map, length, Option, Some, None, is_some, refl, sym, ap, ◌∙◌, subst, inl, inr}
use Rattle.std.specs.List.{filter, find, list_any, range_with_len}
use Rattle.std.specs.Option.{unwrap_or}
use Rattle.std.proofs.lemmas.Bool.{true≢false, and_from, and_parts}
use Rattle.std.proofs.lemmas.Cmp.{nat_eq_equiv}
use Rattle.std.proofs.lemmas.List.{map-append}
use Rattle.mt_skel.specs.Keyed.{row_at, rises, among}
use Rattle.mt_skel.proofs.KeyedLaws.{row_at-key, rises-filter}
use Rattle.mt_skel.proofs.SortedLaws.{rises-keys}
use Rattle.mt_skel.proofs.ElementLaws.{In, in_append, in_filter, in_any, any_in, row_in, in_row, in_map, find_in}
use Rattle.mt_mounts.specs.declared.mount.Attrs.{Attrs}
use Rattle.mt_mounts.specs.declared.mount.Mount.{Mount}
use Rattle.mt_mounts.specs.Forest.{mount_at}
use Rattle.mt_locks.specs.declared.mount_locks.MountLocks.{MountLocks}
use Rattle.mt_locks.specs.MountLocks.{locked_mount, unlocked, without_place, locks_some}
use Rattle.mt_locks.specs.Locks.{LocksView, locks_of, is_locked, unlocked_by}
use Rattle.mt_propagate.specs.World.{WorldView}
use Rattle.mt_propagate.specs.WellFormed.{IsWellFormed}
use Rattle.mt_propagate.specs.Named.{unknown, mount_or_unknown}
use Rattle.mt_propagate.proofs.NumberLaws.{climbs}
use Rattle.mt_propagate.proofs.ListedLaws.{below-all, climbs-append}
use Rattle.mt_propagate.proofs.RowLaws.{keys-map}
use Rattle.mt_bind.proofs.SourceLaws.{no_zero}
use Rattle.mt_guard.specs.Refusals.{changes_locked}
use Rattle.mt_guard.specs.Coming.{numbered_from}
use Rattle.mt_guard.specs.Changing.{Locking, next_locks, with_locks}
use Rattle.mt_guard.proofs.FitLaws.{FitsMount, fits_met, IsSet, numbered_ids}
use Rattle.mt_guard.proofs.FollowLaws.{Follows, IsOf}
use Rattle.mt_book.specs.Locking.{AreLocks}

-- the row of a mount is found one way or the other
row_found : (i : ℕ) (ks : List MountLocks) → find (λ (k : MountLocks). k.mount == i) ks ≡ row_at locked_mount i ks
row_found i [] = refl
row_found i (k ∷ ks) =
    ap (λ b. cond b (Some k) (find (λ (l : MountLocks). l.mount == i) ks)) (nat_eq_equiv.symm k.mount i)
    ∙ ap (λ (o : Option MountLocks). cond (eqb i k.mount) (Some k) o) (row_found i ks)

-- an option that holds something
there_is : {A : Type 0} (o : Option A) → is_some o ≡ true → (x : A) × (o ≡ Some x)
there_is None e = absurd (true≢false (sym e))
there_is (Some x) e = (x, refl)

-- a row that is met is of the same mount
met_mount : (met : List ℕ) (k : MountLocks) → locked_mount (unlocked_by met k) ≡ locked_mount k
met_mount met k = by (among met k.mount)
  where
    by : (b : Bool) → locked_mount (cond b (without_place k) k) ≡ locked_mount k
    by true = refl
    by false = refl

-- ---- what is known of each row of a world

module _ (w : WorldView) (h : IsWellFormed w) (o : AreLocks w) where
  -- its mount is there
  pub row_mount : (k : MountLocks) → In k w.locks.mounts → (y : Mount) × (mount_at w.forest k.mount ≡ Some y)
  row_mount k e = o.there k.mount (ap is_some (in_row locked_mount w.locks.mounts k o.rising e))

  -- so those numbers are below the next one
  row_low : (i : ℕ) (k : MountLocks) → row_at locked_mount i w.locks.mounts ≡ Some k → i < w.next_mount
  row_low i k e = let y = o.there i (ap is_some e) in let b = h.below i y.0 y.1 in b.1

  -- that mount is locked on its place if the row says so
  pub row_locked : (k : MountLocks) → In k w.locks.mounts → k.place ≡ true → is_locked w.locks k.mount ≡ true
  row_locked k e on = any_in (λ (l : MountLocks). l.place && (l.mount == k.mount)) k w.locks.mounts e (and_from k.place (k.mount == k.mount) on (eq-eqb k.mount k.mount refl))

  -- the row is what is locked of it
  row_is : (k : MountLocks) → In k w.locks.mounts → locks_of w.locks k.mount ≡ k
  row_is k e = ap (λ (r : Option MountLocks). unwrap_or r (unlocked k.mount)) (row_found k.mount w.locks.mounts ∙ in_row locked_mount w.locks.mounts k o.rising e)

  -- and fits it
  pub row_fits : (k : MountLocks) (y : Mount) → In k w.locks.mounts → mount_at w.forest k.mount ≡ Some y → FitsMount k y
  row_fits k y e at =
      let found : mount_or_unknown w k.mount ≡ y = ap (λ (r : Option Mount). unwrap_or r unknown) at in
      let a : Attrs = (mount_or_unknown w k.mount).attrs in
      record {
        placed = λ on none. o.placed k.mount (row_locked k e on) (ap (λ (x : Mount). x.place) found ∙ none);
        set = ap (λ (x : Mount). changes_locked k x.attrs x.attrs) (sym found) ∙ ap (λ (l : MountLocks). changes_locked l a a) (sym (row_is k e)) ∙ o.set k.mount;
      }

  -- of a mount that is copied is locked only what is set
  pub of_set : (m : Mount) → IsOf w m → IsSet w m
  of_set m f = ap (λ (a : Attrs). changes_locked (locks_of w.locks m.id) a a) f.attrs ∙ o.set m.id

  -- and one that is locked on its place has one
  pub of_placed : (m : Mount) → IsOf w m → is_locked w.locks m.id ≡ true → m.place ≢ None
  of_placed m f on none = o.placed m.id on (sym f.place ∙ none)

  -- of a fresh one nothing is
  pub fresh_set : (root : ℕ) (attrs : Attrs) → IsSet w (record unknown { root = root; attrs = attrs })
  fresh_set root attrs = by (find (λ (k : MountLocks). k.mount == 0) w.locks.mounts) refl
    where
      by : (r : Option MountLocks) → find (λ (k : MountLocks). k.mount == 0) w.locks.mounts ≡ r → changes_locked (unwrap_or r (unlocked 0)) attrs attrs ≡ false
      by None e = refl
      by (Some k) e =
          let f = find_in (λ (k : MountLocks). k.mount == 0) w.locks.mounts k e in
          let y = row_mount k f.0 in
          no_zero w h y.0 (ap (mount_at w.forest) (sym (eqb-true k.mount 0 f.1)) ∙ y.1)

  -- rows that stay and rows that come have rising numbers
  next_rises : (x : Locking) → rises locked_mount (next_locks w x).mounts ≡ true
  next_rises x =
      let stay : List MountLocks = map (unlocked_by x.met) w.locks.mounts in
      let come : List MountLocks = numbered_from w.next_mount x.came in
      let keys : map locked_mount (stay ++ come) ≡ map locked_mount w.locks.mounts ++ range_with_len w.next_mount (length x.came) =
      map-append locked_mount stay come ∙ (λ i. keys-map locked_mount (unlocked_by x.met) (met_mount x.met) w.locks.mounts i ++ numbered_ids w.next_mount x.came i) in
      sym (rises-keys locked_mount (stay ++ come)) ∙ ap climbs keys
      ∙ climbs-append w.next_mount (length x.came) (map locked_mount w.locks.mounts) (rises-keys locked_mount w.locks.mounts ∙ o.rising)
      (below-all locked_mount w.next_mount w.locks.mounts o.rising row_low)

-- ---- what rows tell of a world

module _ (u : WorldView) (l : LocksView) (rising : rises locked_mount l.mounts ≡ true) (fit : (k : MountLocks) (m : Mount) → In k l.mounts → mount_at u.forest k.mount ≡ Some m → FitsMount k m) where
  -- the rows that are kept
  abbrev is_kept : MountLocks → Bool
  is_kept k = is_some (mount_at u.forest k.mount) && locks_some k

  abbrev kept : List MountLocks
  kept = filter (λ (k : MountLocks). is_some (mount_at u.forest k.mount) && locks_some k) l.mounts

  -- each of them is of a mount that is there, and fits it
  kept_row : (k : MountLocks) → In k kept → (m : Mount) × (mount_at u.forest k.mount ≡ Some m) × FitsMount k m
  kept_row k e =
      let f = in_filter is_kept k l.mounts e in
      let m = there_is (mount_at u.forest k.mount) (and_parts (is_some (mount_at u.forest k.mount)) (locks_some k) f.1).0 in
      (m.0, m.1, fit k m.0 f.0 m.1)

  -- so a mount that has one is there
  kept_there : (i : ℕ) (b : is_some (row_at locked_mount i kept) ≡ true) → (m : Mount) × (mount_at u.forest i ≡ Some m)
  kept_there i b =
      let k = there_is (row_at locked_mount i kept) b in
      let m = kept_row k.0 (row_in locked_mount i kept k.0 k.1) in
      (m.0, ap (mount_at u.forest) (sym (row_at-key locked_mount i kept k.0 k.1)) ∙ m.1)

  -- it has a place if it is locked on one
  kept_placed : (i : ℕ) → list_any (λ (k : MountLocks). k.place && (k.mount == i)) kept ≡ true → (mount_or_unknown u i).place ≢ None
  kept_placed i b none =
      let k = in_any (λ (k : MountLocks). k.place && (k.mount == i)) kept b in
      let p = and_parts k.0.place (k.0.mount == i) k.2 in
      let m = kept_row k.0 k.1 in
      let found : mount_or_unknown u i ≡ m.0 = ap (λ (r : Option Mount). unwrap_or r unknown) (ap (mount_at u.forest) (sym (eqb-true k.0.mount i p.1)) ∙ m.1) in
      m.2.placed p.0 (ap (λ (x : Mount). x.place) (sym found) ∙ none)

  -- and of its attributes only what is set is locked
  kept_set : (i : ℕ) → changes_locked (unwrap_or (find (λ (k : MountLocks). k.mount == i) kept) (unlocked i)) (mount_or_unknown u i).attrs (mount_or_unknown u i).attrs ≡ false
  kept_set i = by (find (λ (k : MountLocks). k.mount == i) kept) refl
    where
      by : (r : Option MountLocks) → find (λ (k : MountLocks). k.mount == i) kept ≡ r → changes_locked (unwrap_or r (unlocked i)) (mount_or_unknown u i).attrs (mount_or_unknown u i).attrs ≡ false
      by None e = refl
      by (Some k) e =
          let f = find_in (λ (k : MountLocks). k.mount == i) kept k e in
          let m = kept_row k f.0 in
          let found : mount_or_unknown u i ≡ m.0 = ap (λ (r : Option Mount). unwrap_or r unknown) (ap (mount_at u.forest) (sym (eqb-true k.mount i f.1)) ∙ m.1) in
          ap (λ (x : Mount). changes_locked k x.attrs x.attrs) found ∙ m.2.set

  -- where all rows fit, what is kept of them is in order
  kept_order : AreLocks (with_locks l u)
  kept_order = record { rising = rises-filter locked_mount is_kept l.mounts rising; there = kept_there; placed = kept_placed; set = kept_set }

-- so it stays in order, where rows that stay and rows that come fit
pub follows_order : (w : WorldView) → IsWellFormed w → AreLocks w → (u : WorldView) (x : Locking) (l : LocksView) → next_locks w x ≡ l → Follows w u.forest x → AreLocks (with_locks l u)
follows_order w h o u x l e f = subst (λ (l : LocksView). AreLocks (with_locks l u)) e (kept_order u (next_locks w x) (next_rises w h o x) each)
  where
    each : (k : MountLocks) (m : Mount) → In k (next_locks w x).mounts → mount_at u.forest k.mount ≡ Some m → FitsMount k m
    each k m at there = elim (in_append k (map (unlocked_by x.met) w.locks.mounts) (numbered_from w.next_mount x.came) at) [
      | inl old ↦
          let q = in_map (unlocked_by x.met) k w.locks.mounts old in
          let y = row_mount w h o q.0 q.1 in
          let number : q.0.mount ≡ k.mount = sym (met_mount x.met q.0) ∙ ap locked_mount q.2 in
          let fits : FitsMount q.0 m = f.stays q.0 y.0 m q.1 y.1 (ap (mount_at u.forest) number ∙ there) (row_fits w h o q.0 y.0 q.1 y.1) in
          subst (λ (l : MountLocks). FitsMount l m) q.2 (fits_met x.met q.0 m fits)
      | inr new ↦ f.comes k m new there
    ]
