-- The lists beside a slab, once one of its slots was written or its memory was changed, and what they answer.
use Rattle.std.proofs.Common.{◌≡◌, ◌⊎◌, ℕ, zero, suc, ◌+◌, ◌-◌, ◌<◌, ◌≤◌, true, List, [], ◌∷◌, ◌++◌, length, replicate, slice_get, slice_set, slice_index_or, Option, Some, None, refl, sym, ap, ◌∙◌, inl, inr, arith}
use Rattle.std.specs.Option.{option_map, option_map_or, option_and_then}
use Rattle.std.proofs.lemmas.Bool.{cases_eq}
use Rattle.std.proofs.lemmas.List.{get_or-set_same, get_or-set_other, set-get_or, length-set, length-append, length-replicate}
use Rattle.std.proofs.lemmas.Option.{slice_get-get_or}
use Rattle.slab.specs.Slab.{Slab, get, Updates}
use Rattle.mt_skel.specs.Keyed.{rises}
use Rattle.mt_skel.proofs.KeyedLaws.{row_at-key}
use Rattle.mt_lists.specs.Lists.{ListRow, listed_id, listed_number, without_row, with_number}
use Rattle.mt_lists.specs.Numbered.{rows_by}
use Rattle.mt_lists.specs.SlotLists.{SlotListsView, id_in, lengthened}
use Rattle.mt_lists.proofs.NumberedLaws.{rises-by, number-by}
use Rattle.mt_lists.proofs.RowLaws.{row-unnumbered, without-absent, number-taken, with-same}
use Rattle.mt_mounts.specs.declared.mount.Mount.{Mount}
use Rattle.mt_mounts.specs.Forest.{id_of, mount_at}
use Rattle.mt_mounts.specs.Slots.{slab_mounts}
use Rattle.mt_mounts.specs.Seats.{seat, IsBeside}
use Rattle.mt_mounts.proofs.SlotLaws.{rises_table}
use Rattle.mt_mounts.proofs.WrittenLaws.{IsWritten, rows_written}
use Rattle.mt_mounts.proofs.TableLaws.{table_same, table_none}

-- more slots that are free
id_longer : (xs : List (Option ℕ)) (n k : ℕ) → id_in (xs ++ replicate n None) k ≡ id_in xs k
id_longer [] zero k = refl
id_longer [] (suc n) zero = refl
id_longer [] (suc n) (suc k) = id_longer [] n k
id_longer (x ∷ xs) n zero = refl
id_longer (x ∷ xs) n (suc k) = id_longer xs n k

module _ (number : Mount → Option ℕ) where
  -- no mounts and no rows
  pub beside_none : (s : Slab Mount) (lists : SlotListsView) → s.slots ≡ [] → s.capacity ≡ 0 → lists.rows ≡ [] → lists.slots ≡ [] → IsBeside number s lists
  beside_none s lists e z r l = record {
    rows = r ∙ sym (ap (rows_by id_of number) (table_none s e));
    seats = λ key. ap (λ xs. id_in xs key) l ∙ sym (ap (λ xs. option_and_then (seat number) (slice_index_or xs key None)) e);
    held = λ key m there. absurd (let v : None ≡ Some m = sym (ap (λ xs. slice_index_or xs key None) e) ∙ there in cc);
    wide = omega (arith, z);
  }

  module _ (s : Slab Mount) (lists : SlotListsView) (h : IsBeside number s lists) where
    pub rises_beside : rises listed_id lists.rows ≡ true
    rises_beside = ap (rises listed_id) h.rows ∙ rises-by id_of number (slab_mounts s) (rises_table s)

    -- the number that is listed of an ID
    pub numbered : (i : ℕ) (o : Option Mount) → mount_at (slab_mounts s) i ≡ o → listed_number lists.rows i ≡ option_and_then number o
    numbered i o is = ap (λ r. listed_number r i) h.rows ∙ number-by id_of number i (slab_mounts s) (rises_table s) ∙ ap (option_and_then number) is

    -- a key that fits has a slot, which is free where the key has no mount
    pub within : (slot : ℕ) → slot < s.capacity → slot < length lists.slots
    within slot fits = omega (arith, fits, h.wide)

    pub vacant_free : (slot : ℕ) → slot < s.capacity → get s slot ≡ None → slice_get lists.slots slot ≡ Some None
    vacant_free slot fits none =
        slice_get-get_or lists.slots slot None (within slot fits) ∙ ap (λ o. Some o) (h.seats slot ∙ ap (option_and_then (seat number)) none)

    -- other memory, with more slots in the lists
    pub beside_longer : (new : Slab Mount) (after : SlotListsView) (width : ℕ) → new.slots ≡ s.slots → after.rows ≡ lists.rows → after.slots ≡ lengthened width lists.slots
        → (new.capacity ≤ s.capacity) ⊎ (new.capacity ≤ width) → IsBeside number new after
    beside_longer new after width e r l fits = record {
      rows = r ∙ h.rows ∙ sym (ap (rows_by id_of number) (table_same s new e));
      seats = λ key.
          ap (λ xs. id_in xs key) l ∙ id_longer lists.slots (width - length lists.slots) key
          ∙ h.seats key ∙ sym (ap (λ xs. option_and_then (seat number) (slice_index_or xs key None)) e);
      held = λ key m there. omega (arith, long, h.held key m (sym (ap (λ xs. slice_index_or xs key None) e) ∙ there));
      wide = elim fits [
        | inl less ↦ omega (arith, long, less, h.wide)
        | inr more ↦ omega (arith, long, more)
      ];
    }
      where
        long : length after.slots ≡ length lists.slots + (width - length lists.slots)
        long = ap length l ∙ length-append lists.slots (replicate (width - length lists.slots) None) ∙ ap (λ n. length lists.slots + n) (length-replicate (width - length lists.slots) None)

    -- a slot was written, and the lists with it
    pub beside_written : (new : Slab Mount) (slot i : ℕ) (o : Option Mount) (after : SlotListsView) → Updates s new slot o → IsWritten (slab_mounts s) i o (slab_mounts new) → new.capacity ≡ s.capacity → slot < length lists.slots
        → after.rows ≡ with_number i (option_and_then number o) lists.rows → after.slots ≡ slice_set lists.slots slot (option_and_then (seat number) o) → IsBeside number new after
    beside_written new slot i o after u w room there r l = record {
      rows = r ∙ ap (with_number i (option_and_then number o)) h.rows ∙ sym (rows_written (slab_mounts s) i o (slab_mounts new) w number (rises_table s));
      seats = λ key. ap (λ xs. id_in xs key) l ∙ (elim (cases_eq key slot) [
        | inl at ↦
            ap (id_in (slice_set lists.slots slot now)) at ∙ get_or-set_same lists.slots slot now None there ∙ sym (ap (option_and_then (seat number)) (ap (get new) at ∙ u.changed))
        | inr off ↦ get_or-set_other lists.slots slot key now None off ∙ h.seats key ∙ ap (option_and_then (seat number)) (sym (u.others key off))
      ]);
      held = λ key m g. elim (cases_eq key slot) [
        | inl at ↦ omega (arith, at, there, long)
        | inr off ↦ omega (arith, h.held key m (sym (u.others key off) ∙ g), long)
      ];
      wide = omega (arith, room, h.wide, long);
    }
      where
        now : Option ℕ
        now = option_and_then (seat number) o

        long : length after.slots ≡ length lists.slots
        long = ap length l ∙ length-set lists.slots slot now

    -- what the lists have of the mount in a slot
    module _ (slot i : ℕ) (m : Mount) (there : get s slot ≡ Some m) (row : mount_at (slab_mounts s) i ≡ Some m) where
      -- its number, which may stay
      pub rows_kept : lists.rows ≡ with_number i (number m) lists.rows
      rows_kept = with-same i (number m) lists.rows rises_beside (numbered i (Some m) row)

      pub slots_kept : lists.slots ≡ slice_set lists.slots slot (seat number m)
      slots_kept = sym (ap (slice_set lists.slots slot) (sym (h.seats slot ∙ ap (option_and_then (seat number)) there)) ∙ set-get_or lists.slots slot None)

      -- and nothing once the slot was emptied
      pub taken : (rows : List ListRow) → rows ≡ option_map_or (λ j. without_row j lists.rows) (id_in lists.slots slot) lists.rows → rows ≡ without_row i lists.rows
      taken rows less = less ∙ ap (λ o. option_map_or (λ j. without_row j lists.rows) o lists.rows) (h.seats slot ∙ ap (option_and_then (seat number)) there) ∙ go (number m) refl
        where
          go : (o : Option ℕ) → number m ≡ o → option_map_or (λ j. without_row j lists.rows) (option_map (λ _. m.id) o) lists.rows ≡ without_row i lists.rows
          go None e = sym (without-absent i lists.rows (row-unnumbered i lists.rows (numbered i (Some m) row ∙ e)))
          go (Some n) e = ap (λ j. without_row j lists.rows) (row_at-key id_of i (slab_mounts s) m row)

      pub taken_absent : (rows : List ListRow) → rows ≡ without_row i lists.rows → listed_number rows i ≡ None
      taken_absent rows e = ap (λ r. listed_number r i) e ∙ number-taken i lists.rows rises_beside
