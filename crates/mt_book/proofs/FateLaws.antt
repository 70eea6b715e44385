-- What becomes of a mount that stands on another one: it stays at its place, or goes or slides with the one on which it stands, or gets behind
-- a copy that comes to its place.
use Rattle.std.proofs.Common.{◌≡◌, ◌⊎◌, ℕ, Bool, true, false, ◌==◌, ◌&&◌, List, [], ◌∷◌, ◌++◌, map, Option, Some, None, is_some, refl, sym, ap, ◌∙◌, inl, inr, IsTrue}
use Rattle.std.specs.Option.{option_map}
use Rattle.std.proofs.lemmas.Bool.{true≢false}
use Rattle.std.proofs.lemmas.Option.{none-some}
use Rattle.mt_skel.specs.Keyed.{among}
use Rattle.mt_mounts.specs.declared.mount.Mount.{Mount}
use Rattle.mt_mounts.specs.declared.mount.Place.{Place}
use Rattle.mt_mounts.specs.Forest.{id_of, mount_at, parent}
use Rattle.mt_locks.specs.Locks.{is_locked}
use Rattle.mt_locks.proofs.LockedLaws.{locked-changed, locked-kept}
use Rattle.mt_propagate.specs.World.{WorldView}
use Rattle.mt_propagate.specs.WellFormed.{IsWellFormed}
use Rattle.mt_propagate.specs.Copies.{Source}
use Rattle.mt_propagate.specs.Copied.{copied}
use Rattle.mt_propagate.specs.Places.{arranged}
use Rattle.mt_propagate.specs.Sound.{IsSource, IsDestination}
use Rattle.mt_propagate.proofs.RowLaws.{row-mapped, row-first, row-kept, row-gone}
use Rattle.mt_propagate.proofs.TreeLaws.{parent-is}
use Rattle.mt_propagate.proofs.CopyRowLaws.{kept}
use Rattle.mt_propagate.proofs.BehindLaws.{stays_or_behind}
use Rattle.mt_bind.specs.Spaces.{next_root, with_space, without_space}
use Rattle.mt_bind.specs.Copying.{copy_of, with_copies}
use Rattle.mt_bind.specs.Pivoting.{pivoted_mount, with_pivot, MayPivot}
use Rattle.mt_bind.proofs.PivotingLaws.{pivot_cases}
use Rattle.mt_unmount.specs.Sliding.{place_of, once_gone, slid}
use Rattle.mt_unmount.proofs.StandingLaws.{place-at, placed-mount}
use Rattle.mt_unmount.proofs.SlideLaws.{slid-here}
use Rattle.mt_unmount.proofs.LeftTreeLaws.{moved, stays-in, gone-from}
use Rattle.mt_setattr.specs.declared.change.Change.{Change}
use Rattle.mt_setattr.specs.Change.{changed_mount, is_chosen, with_change}
use Rattle.mt_guard.specs.Coming.{numbered_from}
use Rattle.mt_guard.specs.Changing.{Locking, next_locks, with_locks}
use Rattle.mt_book.specs.declared.command.Command.{Command}
use Rattle.mt_book.specs.Locking.{AreLocks}
use Rattle.mt_book.specs.Covered.{reached_by, IsParentGone, IsBehindCopy, IsStillCovering}

-- a mount that is there and stands on another one
pub record IsStanding (w : WorldView) (i : ℕ) : Type 0 where
  pub mount : Mount
  pub place : Place
  pub there : mount_at w.forest i ≡ Some mount
  pub stands : mount.place ≡ Some place

-- so is each that is locked on its place
pub locked_stands : (w : WorldView) → AreLocks w → (i : ℕ) → is_locked w.locks i ≡ true → IsStanding w i
locked_stands w k i on = by (place_of w i) refl
  where
    by : (o : Option Place) → place_of w i ≡ o → IsStanding w i
    by None is = absurd (k.placed i on is)
    by (Some p) is = let m = placed-mount w i p is in record { mount = m.0; place = p; there = m.1; stands = m.2 }

-- where it stands afterwards: where it stood, unless what it stood on is gone, or a copy came
abbrev pub IsPlaced : WorldView → WorldView → ℕ → Type 0
IsPlaced w u i = (place_of u i ≡ place_of w i) ⊎ IsParentGone w u i ⊎ IsBehindCopy w u i

-- what becomes of it, where an unmount meets these mounts: it is reached, or gone with what it stood on, or stays and is not met
abbrev pub Fate : WorldView → Command → List ℕ → WorldView → ℕ → Type 0
Fate w c met u i =
    IsTrue (among (reached_by w c) i) ⊎ ((mount_at u.forest i ≡ None) × IsParentGone w u i) ⊎ ((among met i ≡ false) × (is_some (mount_at u.forest i) ≡ true) × IsPlaced w u i)

-- then one that was locked still covers what it covered
pub still_covers : (w : WorldView) (c : Command) (x : Locking) (u : WorldView) (i : ℕ) → is_locked w.locks i ≡ true → Fate w c x.met u i → IsStillCovering w c (with_locks (next_locks w x) u) i
still_covers w c x u i on (inl reached) = inl reached
still_covers w c x u i on (inr (inl gone)) = inr (inl gone)
still_covers w c x u i on (inr (inr stays)) =
    inr (inr (locked-kept u.forest (next_locks w x) i (locked-changed x.met (numbered_from w.next_mount x.came) x.owner w.locks i on stays.0) stays.1, stays.2))

-- ---- mounts that stay where they are

module _ (w : WorldView) (c : Command) (i : ℕ) (x : IsStanding w i) where
  -- it is found with the place that it had
  stays_at : (u : WorldView) (m : Mount) → mount_at u.forest i ≡ Some m → m.place ≡ x.mount.place → Fate w c [] u i
  stays_at u m e same = inr (inr (refl, ap is_some e, inl (place-at u i m e ∙ same ∙ sym (place-at w i x.mount x.there))))

  -- where the mounts are the same
  pub stays_same : (u : WorldView) → u.forest ≡ w.forest → Fate w c [] u i
  stays_same u is = stays_at u x.mount (ap (λ (ms : List Mount). mount_at ms i) is ∙ x.there) refl

  -- where others come behind them
  stays_first : (u : WorldView) (more : List Mount) → u.forest ≡ w.forest ++ more → Fate w c [] u i
  stays_first u more is = stays_at u x.mount (ap (λ (ms : List Mount). mount_at ms i) is ∙ row-first id_of w.forest more i x.mount x.there) refl

  -- as for a new namespace
  pub space_fate : (f : ℕ) (u : WorldView) → u.forest ≡ (with_space w f).forest → Fate w c [] u i
  unfolding with_space
  space_fate f u is = stays_first u (next_root w f ∷ []) is

  -- and for one of copies
  pub copies_fate : (sources : List Mount) (less : Bool) (u : WorldView) → u.forest ≡ (with_copies w sources less).forest → Fate w c [] u i
  unfolding with_copies
  copies_fate sources less u is = stays_first u (map (copy_of w (map id_of sources)) sources) is

  -- where attributes change
  pub change_fate : (change : Change) (j : ℕ) → Fate w c [] (with_change w change j) i
  unfolding with_change
  change_fate change j =
      let changed : Mount → Mount = changed_mount change (is_chosen w change j) in
      stays_at (with_change w change j) (changed x.mount) (row-mapped id_of changed (λ m. refl) w.forest i x.mount x.there) refl

  -- where a mount that is not locked becomes the root mount: it is another one, and so is the old root mount, which stood nowhere
  pub pivot_fate : IsWellFormed w → (new old : ℕ) (p : Place) → MayPivot w new old p → is_locked w.locks i ≡ true → is_locked w.locks new ≡ false → Fate w c [] (with_pivot w new old p) i
  unfolding with_pivot
  pivot_fate h new old p may on free =
      stays_at (with_pivot w new old p) (pivoted_mount new old p x.mount) (row-mapped id_of (pivoted_mount new old p) (λ m. refl) w.forest i x.mount x.there)
      (pivot_cases w h new old p may (λ o. o ≡ x.mount.place) i x.mount x.there (λ same _. absurd (true≢false (sym on ∙ ap (is_locked w.locks) same ∙ free)))
      (λ _ is. absurd (none-some x.place (sym may.unplaced ∙ ap (λ (m : Mount). m.place) (sym is) ∙ x.stands))) (λ _ _. refl))

-- ---- mounts that may go or slide, or get behind a copy

module _ (w : WorldView) (h : IsWellFormed w) (c : Command) (i : ℕ) (x : IsStanding w i) where
  -- what it stands on
  up : parent w.forest i ≡ Some x.place.mount
  up = parent-is w.forest i x.mount x.place x.there x.stands

  -- where its own namespace ends, it goes with what it stands on, which is of that too
  ends : (n : ℕ) → (x.mount.space == n) ≡ true → Fate w c [] (without_space w n) i
  unfolding without_space
  ends n is =
      let q = h.forest.placed i x.mount x.place x.there x.stands in
      let gone : Mount → Bool = λ m. m.space == n in
      inr (inl (row-gone id_of gone w.forest h.forest.rising i x.mount is x.there, (x.place.mount, up, row-gone id_of gone w.forest h.forest.rising x.place.mount q.0 (ap (λ k. k == n) q.2 ∙ is) q.1)))

  -- and where another one ends, it stays
  outlives : (n : ℕ) → (x.mount.space == n) ≡ false → Fate w c [] (without_space w n) i
  unfolding without_space
  outlives n off = stays_at w c i x (without_space w n) x.mount (row-kept id_of (λ (m : Mount). m.space == n) w.forest h.forest.rising i x.mount off x.there) refl

  -- so where any ends
  pub end_fate : (n : ℕ) → Fate w c [] (without_space w n) i
  end_fate n = by (x.mount.space == n) refl
    where
      by : (b : Bool) → (x.mount.space == n) ≡ b → Fate w c [] (without_space w n) i
      by true is = ends n is
      by false off = outlives n off

  -- where copies come, maybe to its place, and it is not the top of a tree that moves
  pub copied_fate : (src : Source) (dest : Place) → IsSource w src dest → IsDestination w dest → (src.moved && (x.mount.id == src.top.id)) ≡ false → Fate w c [] (copied w src dest) i
  unfolding copied
  copied_fate src dest s d off =
      let row = kept w h src dest s d i x.mount x.there in
      elim (stays_or_behind w h src dest s d i x.mount x.there off) [
        | inl same ↦ stays_at w c i x (copied w src dest) (arranged w src dest x.mount) row same
        | inr b ↦
            let new = b.2 in
            inr (inr (refl, ap is_some row, inr (inr (new.id, new.late, place-at (copied w src dest) new.id new.mount new.there ∙ new.stands ∙ sym b.1 ∙ sym (place-at w i x.mount x.there), new.above))))
      ]

  module _ (goes : ℕ → Bool) where
    -- mounts go, but neither it nor what it stands on: then it does not slide
    slides_not : goes i ≡ false → goes x.place.mount ≡ false → place_of (once_gone w goes) i ≡ place_of w i
    slides_not off on =
        place-at (once_gone w goes) i (moved w goes x.mount) (stays-in w h goes i x.mount x.there off) ∙ ap (option_map (slid w goes)) x.stands
        ∙ ap (λ p. Some p) (slid-here w h goes x.place on) ∙ sym x.stands ∙ sym (place-at w i x.mount x.there)

    -- so it keeps its place, unless what it stands on goes
    keeps_place : goes i ≡ false → IsPlaced w (once_gone w goes) i
    keeps_place off = by (goes x.place.mount) refl
      where
        by : (b : Bool) → goes x.place.mount ≡ b → IsPlaced w (once_gone w goes) i
        by true on = inr (inl (x.place.mount, up, gone-from w h goes x.place.mount on))
        by false on = inl (slides_not off on)

    -- where mounts go among which it is only if it is reached, or if what it stands on goes too
    pub gone_fate : (met : List ℕ) → (goes i ≡ true → IsTrue (among (reached_by w c) i) ⊎ ((k : ℕ) × (parent w.forest i ≡ Some k) × (goes k ≡ true)))
        → (among (reached_by w c) i ≡ false → among met i ≡ false) → Fate w c met (once_gone w goes) i
    gone_fate met why off = by (among (reached_by w c) i) (goes i) refl refl
      where
        by : (r b : Bool) → among (reached_by w c) i ≡ r → goes i ≡ b → Fate w c met (once_gone w goes) i
        by true b reached is = inl reached
        by false true none is = elim (why is) [
          | inl reached ↦ absurd (true≢false (sym reached ∙ none))
          | inr above ↦ inr (inl (gone-from w h goes i is, (above.0, above.1, gone-from w h goes above.0 above.2)))
        ]
        by false false none is = inr (inr (off none, ap is_some (stays-in w h goes i x.mount x.there is), keeps_place is))
