-- What is locked stays in order where no mount is copied: where mounts stay, vanish or slide, where one becomes the root mount, and where
-- attributes are changed.
use Rattle.std.proofs.Common.{◌≡◌, ℕ, Bool, true, false, cond, ◌&&◌, ◌==◌, eqb-true, List, [], ◌∷◌, map, Option, Some, None, is_some, Ok, refl, sym, ap, ◌∙◌, subst}
use Rattle.std.specs.Option.{option_map, unwrap_or}
use Rattle.std.proofs.lemmas.Bool.{true≢false, false_from_ne_true}
use Rattle.mt_skel.specs.declared.fault.Fault.TheVariants.{Locked, LockedAttr}
use Rattle.mt_skel.specs.Keyed.{without}
use Rattle.mt_skel.proofs.OutcomeLaws.{accepted, not_refused}
use Rattle.mt_skel.proofs.KeyedLaws.{row_at-key}
use Rattle.mt_skel.proofs.ElementLaws.{In, in_row}
use Rattle.mt_mounts.specs.declared.mount.Mount.{Mount}
use Rattle.mt_mounts.specs.declared.mount.Place.{Place}
use Rattle.mt_mounts.specs.Forest.{id_of, mount_at}
use Rattle.mt_mounts.specs.Walk.{walk}
use Rattle.mt_locks.specs.declared.mount_locks.MountLocks.{MountLocks}
use Rattle.mt_locks.specs.MountLocks.{locked_mount}
use Rattle.mt_locks.specs.Locks.{LocksView, is_locked}
use Rattle.mt_peers.proofs.MemberLaws.{some-is}
use Rattle.mt_propagate.specs.World.{WorldView}
use Rattle.mt_propagate.specs.WellFormed.{IsWellFormed}
use Rattle.mt_propagate.specs.Named.{unknown, mount_or_unknown}
use Rattle.mt_propagate.proofs.RowLaws.{mapped-row, row-mapped, kept-row, any-row}
use Rattle.mt_setattr.specs.declared.change.Change.{Change}
use Rattle.mt_setattr.specs.Change.{changed_attrs, changed_mount, is_chosen, with_change, attributed}
use Rattle.mt_setattr.proofs.AcceptedLaws.{change_accepted}
use Rattle.mt_bind.specs.Spaces.{next_root, with_space, without_space}
use Rattle.mt_bind.specs.Pivoting.{root_id, pivoted_mount, with_pivot, pivoted}
use Rattle.mt_bind.proofs.AcceptedLaws.{path_end, pivot_accepted}
use Rattle.mt_unmount.specs.Sliding.{slid, once_gone}
use Rattle.mt_unmount.specs.Unmounting.{is_removed, without_mount, unmounted}
use Rattle.mt_unmount.specs.Detaching.{is_taken, without_tree, named_place, detached}
use Rattle.mt_unmount.proofs.AcceptedLaws.{unmount_accepted, detach_accepted}
use Rattle.mt_guard.specs.Refusals.{changes_locked, unlocks, unlocks_some, move_guard, unmount_guard, detach_guard, change_guard}
use Rattle.mt_guard.specs.Changing.{keeping, next_locks, with_locks, unmount_locking, detach_locking}
use Rattle.mt_guard.specs.Judging.{pivot_judged, change_judged, unmount_judged, detach_judged}
use Rattle.mt_guard.proofs.FitLaws.{FitsMount, KeepsMount, same_keeps, change_set, unmapped}
use Rattle.mt_guard.proofs.FollowLaws.{Follows, AllKeep, nothing_comes, appended_keep}
use Rattle.mt_book.specs.Locking.{AreLocks}
use Rattle.mt_book.proofs.LockRowLaws.{row_locked, follows_order}

-- a world is in order with what is locked then
abbrev pub Orders : LocksView → WorldView → Type 0
Orders l u = AreLocks (with_locks l u)

module _ (w : WorldView) (h : IsWellFormed w) (o : AreLocks w) where
  -- ---- where no mount comes, or one that is not copied

  -- all mounts stay as they are
  pub same_keep : AllKeep w w.forest
  same_keep i y m at there = same_keeps y m (some-is y m (sym at ∙ there))

  -- those that are left do
  left_keep : (gone : Mount → Bool) → AllKeep w (without gone w.forest)
  left_keep gone i y m at there = same_keeps y m (some-is y m (sym at ∙ (kept-row id_of gone w.forest h.forest.rising i m there).0))

  -- those that are left slide, where mounts are unmounted
  gone_keep : (goes : ℕ → Bool) → AllKeep w (once_gone w goes).forest
  gone_keep goes i y m at there =
      let left : List Mount = without (λ (x : Mount). goes x.id) w.forest in
      let f : Mount → Mount = λ x. record x { place = option_map (slid w goes) x.place } in
      let x = mapped-row id_of f (λ x. refl) left i m there in
      let row = kept-row id_of (λ (x : Mount). goes x.id) w.forest h.forest.rising i x.0 x.1 in
      let slides : KeepsMount x.0 (f x.0) = record { attrs = refl; placed = λ none. unmapped (slid w goes) x.0.place none } in
      subst (λ (y : Mount). KeepsMount y m) (some-is x.0 y (sym row.0 ∙ at)) (subst (KeepsMount x.0) (sym x.2) slides)

  -- then what is locked stays in order
  pub kept : (u : WorldView) (l : LocksView) → next_locks w keeping ≡ l → AllKeep w u.forest → Orders l u
  kept u l e all = follows_order w h o u keeping l e (nothing_comes w u.forest [] all)

  -- a new namespace, and the end of one
  pub space_keep : (f : ℕ) → AllKeep w (with_space w f).forest
  unfolding with_space
  space_keep f = appended_keep w (next_root w f ∷ [])

  pub end_keep : (n : ℕ) → AllKeep w (without_space w n).forest
  unfolding without_space
  end_keep n = left_keep (λ (m : Mount). m.space == n)

  -- an unmount, and a detach
  removed_keep : (i : ℕ) → AllKeep w (without_mount w i).forest
  unfolding without_mount
  removed_keep i = gone_keep (is_removed w i)

  taken_keep : (i : ℕ) → AllKeep w (without_tree w i).forest
  unfolding without_tree
  taken_keep i = gone_keep (is_taken w i)

  pub unmount_order : (n : ℕ) (path : List (List ℕ)) (u : WorldView) (l : LocksView) → unmount_judged w n path ≡ Ok l → unmounted w n path ≡ Ok u → Orders l u
  unmount_order n path u l j e =
      let b = unmount_accepted w n path u e in
      let x = unmount_locking w (walk w.skel w.forest n path) in
      let given = accepted (unmount_guard w n (walk w.skel w.forest n path)) (next_locks w x) l j in
      let i = (path_end w n path).mount in
      subst (Orders l) b.world (follows_order w h o (without_mount w i) x l given.0 (nothing_comes w (without_mount w i).forest x.met (removed_keep i)))

  pub detach_order : (n : ℕ) (path : List (List ℕ)) (u : WorldView) (l : LocksView) → detach_judged w n path ≡ Ok l → detached w n path ≡ Ok u → Orders l u
  detach_order n path u l j e =
      let b = detach_accepted w n path u e in
      let x = detach_locking w (walk w.skel w.forest n path) in
      let given = accepted (detach_guard w n (walk w.skel w.forest n path)) (next_locks w x) l j in
      let i = (named_place w n path).mount in
      subst (Orders l) b.world (follows_order w h o (without_tree w i) x l given.0 (nothing_comes w (without_tree w i).forest x.met (taken_keep i)))

  -- ---- where a mount becomes the root mount, or attributes are changed

  -- any mount but the new root mount had no place if it has none then
  pivot_placed : (new old : Bool) (p : Place) (q : Option Place) → new ≡ false → cond new None (cond old (Some p) q) ≡ None → q ≡ None
  pivot_placed true old p q off e = absurd (true≢false off)
  pivot_placed false true p q off e = absurd (true≢false (ap is_some e))
  pivot_placed false false p q off e = e

  -- rows fit then, if the new root mount is not locked on its place
  pivot_follow : (i j : ℕ) (p : Place) → is_locked w.locks i ≡ false → Follows w (with_pivot w i j p).forest keeping
  unfolding with_pivot
  pivot_follow i j p free = record { stays = stays; comes = λ k m e at. absurd e }
    where
      stays : (k : MountLocks) (y m : Mount) → In k w.locks.mounts → mount_at w.forest k.mount ≡ Some y → mount_at (map (pivoted_mount i j p) w.forest) k.mount ≡ Some m → FitsMount k y → FitsMount k m
      stays k y m e at there f =
          let own : y.id ≡ k.mount = row_at-key id_of k.mount w.forest y at in
          let off : k.place ≡ true → (y.id == i) ≡ false =
          λ on. false_from_ne_true (y.id == i) (λ same. true≢false (sym (row_locked w h o k e on) ∙ ap (is_locked w.locks) (sym own ∙ eqb-true y.id i same) ∙ free)) in
          let now = row-mapped id_of (pivoted_mount i j p) (λ x. refl) w.forest k.mount y at in
          let fits : FitsMount k (pivoted_mount i j p y) = record { placed = λ on none. f.placed on (pivot_placed (y.id == i) (y.id == j) p y.place (off on) none); set = f.set } in
          subst (FitsMount k) (some-is (pivoted_mount i j p y) m (sym now ∙ there)) fits

  -- a pivot
  pub pivot_order : (n : ℕ) (new old : List (List ℕ)) (u : WorldView) (l : LocksView) → pivot_judged w n new old ≡ Ok l → pivoted w n new old ≡ Ok u → Orders l u
  pivot_order n new old u l j e =
      let b = pivot_accepted w n new old u e in
      let i = (path_end w n new).mount in
      let given = accepted (move_guard w n (walk w.skel w.forest n new) (walk w.skel w.forest n old)) (next_locks w keeping) l j in
      let free = not_refused (is_locked w.locks i) Locked given.1.1.1.1.1.1.1.0 in
      subst (Orders l) b.world (follows_order w h o (with_pivot w i (root_id w n) (path_end w n old)) keeping l given.0 (pivot_follow i (root_id w n) (path_end w n old) free))

  -- rows fit the attributes that mounts get, if the change takes nothing away that is locked
  change_follow : (c : Change) (i : ℕ) → unlocks_some w c i ≡ false → Follows w (with_change w c i).forest keeping
  unfolding with_change
  change_follow c i none = record { stays = stays; comes = λ k m e at. absurd e }
    where
      stays : (k : MountLocks) (y m : Mount) → In k w.locks.mounts → mount_at w.forest k.mount ≡ Some y → mount_at (map (changed_mount c (is_chosen w c i)) w.forest) k.mount ≡ Some m → FitsMount k y → FitsMount k m
      stays k y m e at there f =
          let own : y.id ≡ k.mount = row_at-key id_of k.mount w.forest y at in
          let found : y ≡ mount_or_unknown w k.mount = ap (λ (r : Option Mount). unwrap_or r unknown) (sym at) in
          let off = any-row locked_mount (unlocks w c i) w.locks.mounts k.mount k none (in_row locked_mount w.locks.mounts k o.rising e) in
          let taken : (is_chosen w c i y.id && changes_locked k y.attrs (changed_attrs c y.attrs)) ≡ false =
          ap (λ (x : ℕ). is_chosen w c i x && changes_locked k y.attrs (changed_attrs c y.attrs)) own
          ∙ ap (λ (x : Mount). is_chosen w c i k.mount && changes_locked k x.attrs (changed_attrs c x.attrs)) found ∙ off in
          let now = row-mapped id_of (changed_mount c (is_chosen w c i)) (λ x. refl) w.forest k.mount y at in
          let fits : FitsMount k (changed_mount c (is_chosen w c i) y) = record { placed = f.placed; set = change_set k y.attrs (changed_attrs c y.attrs) (is_chosen w c i y.id) taken f.set } in
          subst (FitsMount k) (some-is (changed_mount c (is_chosen w c i) y) m (sym now ∙ there)) fits

  -- a change of attributes
  pub change_order : (n : ℕ) (path : List (List ℕ)) (c : Change) (u : WorldView) (l : LocksView) → change_judged w n path c ≡ Ok l → attributed w n path c ≡ Ok u → Orders l u
  change_order n path c u l j e =
      let b = change_accepted w n path c u e in
      let i = (path_end w n path).mount in
      let given = accepted (change_guard w n c (walk w.skel w.forest n path)) (next_locks w keeping) l j in
      let none = not_refused (unlocks_some w c i) LockedAttr given.1.1.1.1.1.0 in
      subst (Orders l) b.world (follows_order w h o (with_change w c i) keeping l given.0 (change_follow c i none))
