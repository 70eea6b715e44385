-- Rows that fit mounts: a mount that is locked on its place has one, and of attributes only what is set is locked. Rows that come fit the
-- mounts beside which they come.
use Rattle.std.proofs.Common.{◌≡◌, ◌≢◌, ℕ, zero, suc, ◌+◌, ◌≤◌, Bool, true, false, cond, not, ◌&&◌, ◌||◌, ◌==◌, eq-eqb, List, [], ◌∷◌, ◌++◌, map, length, Option, Some, None, is_some, is_none, refl, sym, ap, ◌∙◌, subst, inl, inr, arith}
use Rattle.std.specs.List.{flat_map, range_with_len}
use Rattle.std.specs.Option.{option_map}
use Rattle.std.proofs.lemmas.Bool.{true≢false, ne_eqb, and_from, and_right, or_parts, or_from}
use Rattle.mt_skel.specs.Keyed.{among}
use Rattle.mt_skel.proofs.ElementLaws.{In}
use Rattle.mt_mounts.specs.declared.mount.Attrs.{Attrs}
use Rattle.mt_mounts.specs.declared.mount.Atime.{Atime}
use Rattle.mt_mounts.specs.declared.mount.Atime.TheVariants.{Relatime, Noatime, Strictatime}
use Rattle.mt_mounts.specs.declared.mount.Mount.{Mount}
use Rattle.mt_mounts.specs.declared.mount.Place.{Place}
use Rattle.mt_mounts.specs.Forest.{id_of, mount_at}
use Rattle.mt_locks.specs.declared.mount_locks.MountLocks.{MountLocks}
use Rattle.mt_locks.specs.MountLocks.{locked_mount, with_all_attrs, without_place}
use Rattle.mt_locks.specs.Locks.{locks_of, is_locked, unlocked_by}
use Rattle.mt_peers.proofs.MemberLaws.{some-is}
use Rattle.mt_propagate.specs.World.{WorldView}
use Rattle.mt_bind.specs.Copying.{copy_of, copy_number}
use Rattle.mt_bind.specs.Opening.{unplaced_top}
use Rattle.mt_guard.specs.Refusals.{same_flag, same_atime, loses, changes_locked}
use Rattle.mt_guard.specs.Coming.{numbered_from, locks_with, locks_of_copy, original_locks}

-- ---- attributes

-- a change from some attributes to others takes nothing away that is locked, test by test
record TakesNothing (k : MountLocks) (a b : Attrs) : Type 0 where
  ro : loses k.ro b.ro ≡ false
  nosuid : loses k.nosuid b.nosuid ≡ false
  nodev : loses k.nodev b.nodev ≡ false
  noexec : loses k.noexec b.noexec ≡ false
  times : (k.atime && not (same_flag a.nodiratime b.nodiratime && same_atime a.atime b.atime)) ≡ false

-- so each test of such a change fails, and where each of them does, nothing that is locked is taken away
each_test : (k : MountLocks) (a b : Attrs) → changes_locked k a b ≡ false → TakesNothing k a b
each_test k a b e =
    let times : Bool = k.atime && not (same_flag a.nodiratime b.nodiratime && same_atime a.atime b.atime) in
    let x = or_parts (loses k.ro b.ro || loses k.nosuid b.nosuid || loses k.nodev b.nodev || loses k.noexec b.noexec) times e in
    let y = or_parts (loses k.ro b.ro || loses k.nosuid b.nosuid || loses k.nodev b.nodev) (loses k.noexec b.noexec) x.0 in
    let z = or_parts (loses k.ro b.ro || loses k.nosuid b.nosuid) (loses k.nodev b.nodev) y.0 in
    let t = or_parts (loses k.ro b.ro) (loses k.nosuid b.nosuid) z.0 in
    record { ro = t.0; nosuid = t.1; nodev = z.1; noexec = y.1; times = x.1 }

all_tests : (k : MountLocks) (a b : Attrs) → TakesNothing k a b → changes_locked k a b ≡ false
all_tests k a b p =
    let times : Bool = k.atime && not (same_flag a.nodiratime b.nodiratime && same_atime a.atime b.atime) in
    let two = or_from (loses k.ro b.ro) (loses k.nosuid b.nosuid) p.ro p.nosuid in
    let three = or_from (loses k.ro b.ro || loses k.nosuid b.nosuid) (loses k.nodev b.nodev) two p.nodev in
    let four = or_from (loses k.ro b.ro || loses k.nosuid b.nosuid || loses k.nodev b.nodev) (loses k.noexec b.noexec) three p.noexec in
    or_from (loses k.ro b.ro || loses k.nosuid b.nosuid || loses k.nodev b.nodev || loses k.noexec b.noexec) times four p.times

-- no flag and no access time differs from itself
same_self : (b : Bool) → same_flag b b ≡ true
same_self true = refl
same_self false = refl

atime_self : (t : Atime) → same_atime t t ≡ true
atime_self Relatime = refl
atime_self Noatime = refl
atime_self Strictatime = refl

-- so access times are kept where nothing changes
times_kept : (b : Bool) (a : Attrs) → (b && not (same_flag a.nodiratime a.nodiratime && same_atime a.atime a.atime)) ≡ false
times_kept b a =
    and_right b (not (same_flag a.nodiratime a.nodiratime && same_atime a.atime a.atime))
    (ap not (and_from (same_flag a.nodiratime a.nodiratime) (same_atime a.atime a.atime) (same_self a.nodiratime) (atime_self a.atime)))

-- a flag may be locked too where it is set
lock_set : (locked now : Bool) → loses locked now ≡ false → loses (locked || now) now ≡ false
lock_set true true e = refl
lock_set true false e = e
lock_set false true e = refl
lock_set false false e = refl

-- all attributes may be locked as they are
pub all_set : (k : MountLocks) (a : Attrs) → changes_locked k a a ≡ false → changes_locked (with_all_attrs a k) a a ≡ false
all_set k a e =
    let p = each_test k a a e in
    all_tests (with_all_attrs a k) a a (record {
      ro = lock_set k.ro a.ro p.ro;
      nosuid = lock_set k.nosuid a.nosuid p.nosuid;
      nodev = lock_set k.nodev a.nodev p.nodev;
      noexec = lock_set k.noexec a.noexec p.noexec;
      times = times_kept true a;
    })

-- where a change takes nothing away, what is locked is set then
pub change_set : (k : MountLocks) (a b : Attrs) (chosen : Bool) → (chosen && changes_locked k a b) ≡ false → changes_locked k a a ≡ false → changes_locked k (cond chosen b a) (cond chosen b a) ≡ false
change_set k a b true e f = let p = each_test k a b e in all_tests k b b (record { ro = p.ro; nosuid = p.nosuid; nodev = p.nodev; noexec = p.noexec; times = times_kept k.atime b })
change_set k a b false e f = f

-- ---- a row and its mount

-- a mount that is locked on its place has one, and of attributes only what is set is locked
pub record FitsMount (k : MountLocks) (m : Mount) : Type 0 where
  pub placed : k.place ≡ true → m.place ≢ None
  pub set : changes_locked k m.attrs m.attrs ≡ false

-- a mount keeps its attributes, and a place if it had one
pub record KeepsMount (y m : Mount) : Type 0 where
  pub attrs : m.attrs ≡ y.attrs
  pub placed : m.place ≡ None → y.place ≡ None

-- what fits a mount fits it still then
pub keeps_fit : (k : MountLocks) (y m : Mount) → KeepsMount y m → FitsMount k y → FitsMount k m
keeps_fit k y m s f = record { placed = λ on none. f.placed on (s.placed none); set = ap (λ (a : Attrs). changes_locked k a a) s.attrs ∙ f.set }

-- a mount that stays as it is keeps both
pub same_keeps : (y m : Mount) → y ≡ m → KeepsMount y m
same_keeps y m e = record { attrs = ap (λ (x : Mount). x.attrs) (sym e); placed = λ none. ap (λ (x : Mount). x.place) e ∙ none }

-- the number of a row does not matter, nor that a mount is met
fits_numbered : (n : ℕ) (k : MountLocks) (m : Mount) → FitsMount k m → FitsMount (record k { mount = n }) m
fits_numbered n k m f = record { placed = f.placed; set = f.set }

pub fits_met : (met : List ℕ) (k : MountLocks) (m : Mount) → FitsMount k m → FitsMount (unlocked_by met k) m
fits_met met k m f = by (among met k.mount)
  where
    by : (b : Bool) → FitsMount (cond b (without_place k) k) m
    by true = record { placed = λ on none. true≢false (sym on); set = f.set }
    by false = f

-- ---- what is locked of copies

-- of attributes is locked only what the mount has that is copied
abbrev pub IsSet : WorldView → Mount → Type 0
IsSet w m = changes_locked (locks_of w.locks m.id) m.attrs m.attrs ≡ false

-- where a change of what is there leaves nothing, nothing was there
pub unmapped : {A B : Type 0} (f : A → B) (o : Option A) → option_map f o ≡ None → o ≡ None
unmapped f None e = refl
unmapped f (Some x) e = absurd (true≢false (ap is_some e))

module _ (w : WorldView) where
  -- where a copy in a namespace of its own stands
  abbrev copied_place : List ℕ → Place → Place
  copied_place ids p = record { mount = copy_number w ids p.mount; dir = p.dir }

  -- so it is of the copy
  copy_set : (foreign : Bool) (top : ℕ) (m : Mount) → IsSet w m → changes_locked (locks_of_copy w foreign top m) m.attrs m.attrs ≡ false
  copy_set true top m e = all_set (locks_with w (not (m.id == top) && (is_locked w.locks m.id || true)) m.id) m.attrs e
  copy_set false top m e = e

  -- the locks of a copy fit one that stands at a place
  pub copy_fits : (foreign : Bool) (top : ℕ) (m y : Mount) → IsSet w m → y.attrs ≡ m.attrs → y.place ≢ None → FitsMount (locks_of_copy w foreign top m) y
  copy_fits foreign top m y set same stands = record { placed = λ on. stands; set = ap (λ (a : Attrs). changes_locked (locks_of_copy w foreign top m) a a) same ∙ copy_set foreign top m set }

  -- a copy in a copied namespace is locked on its place only where its original has one
  original_placed : (locked all : Bool) (o : Option Place) → (locked ≡ true → o ≢ None) → (locked || (all && not (is_none o))) ≡ true → o ≢ None
  original_placed true all o stands on none = stands refl none
  original_placed false true o stands on none = true≢false (sym on ∙ ap (λ (x : Option Place). not (is_none x)) none)
  original_placed false false o stands on none = true≢false (sym on)

  -- so its locks fit it
  pub original_fits : (all : Bool) (ids : List ℕ) (m : Mount) → IsSet w m → (is_locked w.locks m.id ≡ true → m.place ≢ None) → FitsMount (original_locks w all m) (copy_of w ids m)
  original_fits true ids m set stands = record {
    placed = λ on none. original_placed (is_locked w.locks m.id) true m.place stands on (unmapped (copied_place ids) m.place none);
    set = all_set (locks_with w (is_locked w.locks m.id || (true && not (is_none m.place))) m.id) m.attrs set;
  }
  original_fits false ids m set stands = record {
    placed = λ on none. original_placed (is_locked w.locks m.id) false m.place stands on (unmapped (copied_place ids) m.place none);
    set = set;
  }

  -- in a tree that is opened the top stands nowhere, and is not locked on a place
  opened_placed : (top locked : Bool) (o : Option Place) → (locked ≡ true → o ≢ None) → (not top && (locked || false)) ≡ true → cond top None o ≢ None
  opened_placed true locked o stands on none = true≢false (sym on)
  opened_placed false true o stands on none = stands refl none
  opened_placed false false o stands on none = true≢false (sym on)

  -- so the locks of a copy there fit it
  pub opened_fits : (top : ℕ) (ids : List ℕ) (m : Mount) → IsSet w m → (is_locked w.locks m.id ≡ true → m.place ≢ None)
      → FitsMount (locks_of_copy w false top (unplaced_top top m)) (copy_of w ids (unplaced_top top m))
  opened_fits top ids m set stands = record {
    placed = λ on none. opened_placed (m.id == top) (is_locked w.locks m.id) m.place stands on (unmapped (copied_place ids) (cond (m.id == top) None m.place) none);
    set = set;
  }

-- ---- rows beside mounts

-- rows fit the mounts beside them, one by one
abbrev pub AreBeside : List MountLocks → List Mount → Type 0
AreBeside [] [] = Unit {0}
AreBeside (k ∷ ks) (m ∷ ms) = FitsMount k m × AreBeside ks ms
AreBeside ks ms = ⊥

-- rows that are made of mounts fit others that are made of them, if each does
pub each_beside : (f : Mount → MountLocks) (g : Mount → Mount) (ms : List Mount) → ((m : Mount) → In m ms → FitsMount (f m) (g m)) → AreBeside (map f ms) (map g ms)
each_beside f g [] each = tt
each_beside f g (m ∷ ms) each = (each m (inl refl), each_beside f g ms (λ x e. each x (inr e)))

-- rows beside mounts, and others behind them
both_beside : (ks ls : List MountLocks) (ms ns : List Mount) → AreBeside ks ms → AreBeside ls ns → AreBeside (ks ++ ls) (ms ++ ns)
both_beside [] ls [] ns a b = b
both_beside [] ls (m ∷ ms) ns a b = absurd a
both_beside (k ∷ ks) ls [] ns a b = absurd a
both_beside (k ∷ ks) ls (m ∷ ms) ns a b = (a.0, both_beside ks ls ms ns a.1 b)

-- so it is with rows and mounts that are made of mounts at each target
pub pairs_beside : (f : ℕ → Mount → MountLocks) (g : ℕ → Mount → Mount) (ms : List Mount) (ts : List ℕ) → ((t : ℕ) (m : Mount) → In m ms → FitsMount (f t m) (g t m))
    → AreBeside (flat_map (λ t. map (f t) ms) ts) (flat_map (λ t. map (g t) ms) ts)
pairs_beside f g ms [] each = tt
pairs_beside f g ms (t ∷ ts) each =
    both_beside (map (f t) ms) (flat_map (λ t. map (f t) ms) ts) (map (g t) ms) (flat_map (λ t. map (g t) ms) ts) (each_beside (f t) (g t) ms (each t)) (pairs_beside f g ms ts each)

-- rows that come have the numbers from the first one on
pub numbered_ids : (n : ℕ) (ks : List MountLocks) → map locked_mount (numbered_from n ks) ≡ range_with_len n (length ks)
numbered_ids n [] = refl
numbered_ids n (k ∷ ks) = ap (λ l. n ∷ l) (numbered_ids (n + 1) ks)

pub numbered_high : (n : ℕ) (ks : List MountLocks) (k : MountLocks) → In k (numbered_from n ks) → n ≤ k.mount
numbered_high n [] k e = absurd e
numbered_high n (x ∷ ks) k e = elim e [
  | inl here ↦ let number : n ≡ k.mount = ap locked_mount here in omega (arith, number)
  | inr later ↦ let high = numbered_high (n + 1) ks k later in omega (arith, high)
]

-- each of them fits the mount with its number, where mounts have such numbers too
pub beside_row : (n : ℕ) (ks : List MountLocks) (ms : List Mount) (many : ℕ) → AreBeside ks ms → map id_of ms ≡ range_with_len n many
    → (k : MountLocks) (m : Mount) → In k (numbered_from n ks) → mount_at ms k.mount ≡ Some m → FitsMount k m
beside_row n [] ms many a ids k m e at = absurd e
beside_row n (x ∷ ks) [] many a ids k m e at = absurd a
beside_row n (x ∷ ks) (y ∷ ms) zero a ids k m e at = absurd (cc)
beside_row n (x ∷ ks) (y ∷ ms) (suc many) a ids k m e at =
    let first : y.id ≡ n = cc in
    let rest : map id_of ms ≡ range_with_len (n + 1) many = cc in
    elim e [
      | inl here ↦
          let number : n ≡ k.mount = ap locked_mount here in
          let found : y ≡ m = some-is y m (sym (ap (λ b. cond b (Some y) (mount_at ms k.mount)) (eq-eqb k.mount y.id (sym number ∙ sym first))) ∙ at) in
          subst (FitsMount k) found (subst (λ (l : MountLocks). FitsMount l y) here (fits_numbered n x y a.0))
      | inr later ↦
          let high = numbered_high (n + 1) ks k later in
          let off : k.mount ≢ y.id = λ same. omega (arith, same, first, high) in
          beside_row (n + 1) ks ms many a.1 rest k m later (sym (ap (λ b. cond b (Some y) (mount_at ms k.mount)) (ne_eqb k.mount y.id off)) ∙ at)
    ]
