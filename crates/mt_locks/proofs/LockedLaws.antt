-- What is locked, by the list of it.
use Rattle.std.proofs.Common.{◌≡◌, ℕ, Bool, true, false, cond, ◌&&◌, ◌||◌, ◌==◌, eqb, eqb-true, eq-eqb, List, [], ◌∷◌, ◌++◌, map, Option, None, is_some, refl, ap, ◌∙◌, subst, append-nil}
use Rattle.std.specs.List.{filter, list_any}
use Rattle.std.proofs.lemmas.Bool.{and_parts, and_from}
use Rattle.mt_skel.specs.Keyed.{among}
use Rattle.mt_skel.proofs.ElementLaws.{In, in_any, any_in, in_left, in_mapped, in_filtered}
use Rattle.mt_mounts.specs.declared.mount.Mount.{Mount}
use Rattle.mt_mounts.specs.Forest.{mount_at}
use Rattle.mt_locks.specs.declared.mount_locks.MountLocks.{MountLocks}
use Rattle.mt_locks.specs.MountLocks.{locked_mount, without_place, locks_some}
use Rattle.mt_locks.specs.Locks.{LocksView, is_locked, locked_ids, unlocked_by, changed_locks, kept_locks}

-- one of the mounts that are locked on their places passes a test
step : (f : ℕ → Bool) (b : Bool) (i : ℕ) (more : List MountLocks) (ks : List MountLocks) → list_any f (map locked_mount more) ≡ list_any (λ (k : MountLocks). k.place && f k.mount) ks → (k : MountLocks) → k.mount ≡ i → list_any f (map locked_mount (cond b (k ∷ more) more)) ≡ ((b && f i) || list_any (λ (k : MountLocks). k.place && f k.mount) ks)
step f true i more ks e k same = ap (λ j. f j || list_any f (map locked_mount more)) same ∙ ap (λ r. f i || r) e
step f false i more ks e k same = e

pub any-locked : (f : ℕ → Bool) (ks : List MountLocks) → list_any f (map locked_mount (filter (λ (k : MountLocks). k.place) ks)) ≡ list_any (λ (k : MountLocks). k.place && f k.mount) ks
any-locked f [] = refl
any-locked f (k ∷ ks) = step f k.place k.mount (filter (λ (k : MountLocks). k.place) ks) ks (any-locked f ks) k refl

-- a mount that is locked on its place is one of those that are
pub ids-locked : (l : LocksView) (i : ℕ) → among (locked_ids l) i ≡ is_locked l i
ids-locked l i = any-locked (λ j. eqb j i) l.mounts

-- where no mount is met and none comes, what is locked stays
none-unlocked : (ks : List MountLocks) → map (unlocked_by []) ks ≡ ks
none-unlocked [] = refl
none-unlocked (k ∷ ks) = ap (λ l. k ∷ l) (none-unlocked ks)

pub nothing-changed : (l : LocksView) → changed_locks [] [] None l ≡ l
nothing-changed l = λ i. record { owners = append-nil l.owners i; mounts = (append-nil (map (unlocked_by []) l.mounts) ∙ none-unlocked l.mounts) i }

-- a mount is locked on its place where a row says so
locked-row : (ks : List MountLocks) (i : ℕ) → list_any (λ (k : MountLocks). k.place && (k.mount == i)) ks ≡ true → (k : MountLocks) × In k ks × (k.place ≡ true) × (k.mount ≡ i)
locked-row ks i e =
    let k = in_any (λ (k : MountLocks). k.place && (k.mount == i)) ks e in
    let p = and_parts k.0.place (k.0.mount == i) k.2 in
    (k.0, k.1, p.0, eqb-true k.0.mount i p.1)

row-locked : (ks : List MountLocks) (i : ℕ) (k : MountLocks) → In k ks → k.place ≡ true → k.mount ≡ i → list_any (λ (k : MountLocks). k.place && (k.mount == i)) ks ≡ true
row-locked ks i k there on same = any_in (λ (k : MountLocks). k.place && (k.mount == i)) k ks there (and_from k.place (k.mount == i) on (eq-eqb k.mount i same))

-- one that is not met stays locked, whatever comes
pub locked-changed : (met : List ℕ) (came : List MountLocks) (owner : Option (ℕ × ℕ)) (l : LocksView) (i : ℕ) → is_locked l i ≡ true → among met i ≡ false → is_locked (changed_locks met came owner l) i ≡ true
locked-changed met came owner l i on off =
    let k = locked-row l.mounts i on in
    let same : unlocked_by met k.0 ≡ k.0 = ap (λ b. cond b (without_place k.0) k.0) (ap (among met) k.3 ∙ off) in
    let there : In k.0 (map (unlocked_by met) l.mounts) = subst (λ (x : MountLocks). In x (map (unlocked_by met) l.mounts)) same (in_mapped (unlocked_by met) k.0 l.mounts k.1) in
    row-locked (map (unlocked_by met) l.mounts ++ came) i k.0 (in_left k.0 (map (unlocked_by met) l.mounts) came there) k.2 k.3

-- and one that is still there stays locked
pub locked-kept : (ms : List Mount) (l : LocksView) (i : ℕ) → is_locked l i ≡ true → is_some (mount_at ms i) ≡ true → is_locked (kept_locks ms l) i ≡ true
locked-kept ms l i on there =
    let keeps : MountLocks → Bool = λ k. is_some (mount_at ms k.mount) && locks_some k in
    let k = locked-row l.mounts i on in
    let locks : locks_some k.0 ≡ true = ap (λ b. b || k.0.ro || k.0.nosuid || k.0.nodev || k.0.noexec || k.0.atime) k.2 in
    let stays : keeps k.0 ≡ true = and_from (is_some (mount_at ms k.0.mount)) (locks_some k.0) (ap (λ j. is_some (mount_at ms j)) k.3 ∙ there) locks in
    row-locked (filter keeps l.mounts) i k.0 (in_filtered keeps k.0 l.mounts k.1 stays) k.2 k.3
