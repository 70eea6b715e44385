-- Where nothing is locked and each namespace has the owner 0, nothing is refused for a lock, and nothing comes locked without the
-- word `lock`.
use Rattle.std.proofs.Common.{◌≡◌, ℕ, ◌+◌, ◌*◌, Bool, true, false, cond, not, ◌&&◌, ◌||◌, ◌==◌, List, [], ◌∷◌, ◌++◌, map, length, Option, Some, None, is_some, Result, Ok, Err, refl, sym, ap, ◌∙◌}
use Rattle.std.specs.List.{filter, flat_map, list_all}
use Rattle.std.proofs.lemmas.Bool.{and_from, and_parts, not-true}
use Rattle.mt_skel.specs.declared.fault.Fault.{Fault}
use Rattle.mt_skel.specs.Outcome.{outcome}
use Rattle.mt_mounts.specs.declared.mount.Mount.{Mount}
use Rattle.mt_mounts.specs.declared.mount.Place.{Place}
use Rattle.mt_mounts.specs.Forest.{mount_at, mounts_in}
use Rattle.mt_locks.specs.declared.mount_locks.MountLocks.{MountLocks}
use Rattle.mt_locks.specs.MountLocks.{locks_some}
use Rattle.mt_locks.specs.Locks.{no_locks, kept_locks}
use Rattle.mt_propagate.specs.World.{WorldView, space_of}
use Rattle.mt_propagate.specs.Limits.{too_many_mounts}
use Rattle.mt_propagate.specs.Receivers.{targets}
use Rattle.mt_propagate.specs.Copies.{Source}
use Rattle.mt_guard.specs.Coming.{numbered_from, is_foreign, locks_of_copy, copies_locks, come_locked, opened_locks, original_locks, copied_locks, where_led}
use Rattle.mt_guard.specs.Changing.{Locking, next_locks}

-- what comes first is refused the same, whatever comes behind it
pub front : {X Y : Type 0} (first behind : List (Option Fault)) (x : X) (y : Y) (f : Fault) → outcome (first ++ None ∷ []) x ≡ Err f → outcome (first ++ behind) y ≡ Err f
front [] behind x y f e = absurd (cc)
front (None ∷ first) behind x y f e = front first behind x y f e
front (Some g ∷ first) behind x y f e = let same : g ≡ f = cc in ap (λ h. Err h) same

-- rows of which nothing is locked
abbrev pub AreFree : List MountLocks → Type 0
AreFree ks = list_all (λ (k : MountLocks). not (locks_some k)) ks ≡ true

map_free : (f : Mount → MountLocks) → ((m : Mount) → locks_some (f m) ≡ false) → (ms : List Mount) → AreFree (map f ms)
map_free f each [] = refl
map_free f each (m ∷ ms) = and_from (not (locks_some (f m))) _ (ap not (each m)) (map_free f each ms)

both_free : (xs ys : List MountLocks) → AreFree xs → AreFree ys → AreFree (xs ++ ys)
both_free [] ys a b = b
both_free (x ∷ xs) ys a b =
    let p = and_parts (not (locks_some x)) (list_all (λ (k : MountLocks). not (locks_some k)) xs) a in
    and_from (not (locks_some x)) _ p.0 (both_free xs ys p.1 b)

all_free : (f : ℕ → List MountLocks) → ((t : ℕ) → AreFree (f t)) → (ts : List ℕ) → AreFree (flat_map f ts)
all_free f each [] = refl
all_free f each (t ∷ ts) = both_free (f t) (flat_map f ts) (each t) (all_free f each ts)

-- of them nothing is kept
abbrev pub kept_of : List Mount → List MountLocks → List MountLocks
kept_of ms ks = filter (λ (k : MountLocks). is_some (mount_at ms k.mount) && locks_some k) ks

none_more : (there some : Bool) (k : MountLocks) (rest : List MountLocks) → some ≡ false → rest ≡ [] → cond (there && some) (k ∷ rest) rest ≡ []
none_more true some k rest off none = ap (λ b. cond b (k ∷ rest) rest) off ∙ none
none_more false some k rest off none = none

pub none_kept : (ms : List Mount) (n : ℕ) (ks : List MountLocks) → AreFree ks → kept_of ms (numbered_from n ks) ≡ []
none_kept ms n [] a = refl
none_kept ms n (k ∷ ks) a =
    let p = and_parts (not (locks_some k)) (list_all (λ (k : MountLocks). not (locks_some k)) ks) a in
    none_more (is_some (mount_at ms n)) (locks_some k) (record k { mount = n }) (kept_of ms (numbered_from (n + 1) ks)) (not-true (locks_some k) p.0) (none_kept ms (n + 1) ks p.1)

module _ (u : WorldView) where
  abbrev pub free : WorldView
  free = record u { locks = no_locks }

  copy_free : (top : ℕ) (m : Mount) → locks_some (locks_of_copy free false top m) ≡ false
  copy_free top m = by (m.id == top)
    where
      by : (b : Bool) → ((not b && (false || false)) || false || false || false || false || false) ≡ false
      by true = refl
      by false = refl

  copies_free : (here top : ℕ) (ms : List Mount) (ts : List ℕ) → AreFree (copies_locks free here top ms ts)
  copies_free here top ms ts = by (too_many_mounts free (length ts * length ms))
    where
      by : (b : Bool) → AreFree (cond b [] (flat_map (λ t. map (locks_of_copy free (is_foreign free here (space_of free t)) top) ms) ts))
      by true = refl
      by false = all_free (λ t. map (locks_of_copy free (is_foreign free here (space_of free t)) top) ms) (λ t. map_free (locks_of_copy free false top) (copy_free top) ms) ts

  pub come_free : (here : ℕ) (src : Source) (p : Place) → AreFree (come_locked free here src p)
  come_free here src p = copies_free here src.top.id src.mounts (cond src.moved (targets free p) (p.mount ∷ targets free p))

  pub opened_free : (top : ℕ) (ms : List Mount) → AreFree (opened_locks free top ms)
  opened_free top ms = map_free (locks_of_copy free false top) (copy_free top) ms

  pub copied_free : (n : ℕ) → AreFree (copied_locks free false n)
  copied_free n = map_free (original_locks free false) (λ m. refl) (mounts_in u.forest n)

  pub led_free : (at : Result Place Fault) (come : Place → List MountLocks) → ((p : Place) → AreFree (come p)) → AreFree (where_led at come)
  led_free (Ok p) come each = each p
  led_free (Err f) come each = refl

  -- so nothing is locked afterwards
  pub free_after : (ms : List Mount) (x : Locking) → x.owner ≡ None → AreFree x.came → kept_locks ms (next_locks free x) ≡ no_locks
  free_after ms x owner came = λ i. record {
    owners = ap (λ o. (kept_locks ms (next_locks free (record x { owner = o }))).owners) owner i;
    mounts = none_kept ms u.next_mount x.came came i;
  }
