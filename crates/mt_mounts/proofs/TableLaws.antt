-- What a change of one slot makes of a table's keys and of its mounts.
use Rattle.std.proofs.Common.{◌≡◌, ◌≢◌, ◌↔◌, ℕ, cond, eqb, eq-eqb, nat_eq, [], Option, Some, None, slice_index_or, sym, ap, subst, ◌∙◌, refl, inl, inr}
use Rattle.std.specs.Map.{lookup}
use Rattle.std.specs.Option.{IfSome, option_map, option_and_then}
use Rattle.std.proofs.lemmas.Bool.{cases_eq, ne_eqb, cond-true, cond-false}
use Rattle.std.proofs.lemmas.Option.{same_Some, none-some}
use Rattle.slab.specs.Slab.{Slab, get, Updates, IsSlotClone}
use Rattle.mt_skel.specs.Keyed.{row_at}
use Rattle.mt_mounts.specs.declared.mount.Mount.{Mount}
use Rattle.mt_mounts.specs.Forest.{id_of, mount_at}
use Rattle.mt_mounts.specs.Slots.{by_id, slab_mounts, Keys, key_at, HoldsAt, AreKeyed, IsKeyed}
use Rattle.mt_mounts.proofs.SlotLaws.{AreApart, none_found, mapped, rises_table, slot_of_row, row_of_slot}
use Rattle.mt_mounts.proofs.WrittenLaws.{IsWritten, row_cases}

-- the same slots make the same forest
pub table_same : (s new : Slab Mount) → new.slots ≡ s.slots → slab_mounts new ≡ slab_mounts s
unfolding slab_mounts
table_same s new e = ap by_id e

-- no slots make a forest without mounts
pub table_none : (s : Slab Mount) → s.slots ≡ [] → slab_mounts s ≡ []
unfolding slab_mounts
table_none s e = ap by_id e

-- a clone of a value that is copied
pub slot_same : (a b : Option Mount) → IsSlotClone (λ x y. y ≡ x) a b → b ≡ a
slot_same None b h = h
slot_same (Some x) None h = absurd h
slot_same (Some x) (Some y) h = ap (λ z. Some z) h

-- the mounts of a table differ in their IDs
pub distinct_ids : (s : Slab Mount) (keys : Keys) → IsKeyed s keys → AreApart s.slots
distinct_ids s keys k i j a b ga gb same = same_Some i j (sym (k.known i a ga) ∙ ap (key_at keys) same ∙ k.known j b gb)

-- the same slots and entries make the same table
pub keyed_same : (s new : Slab Mount) (keys keys' : Keys) → new.slots ≡ s.slots → keys'.entries ≡ keys.entries → IsKeyed s keys → IsKeyed new keys'
keyed_same s new keys keys' e f k =
    subst (λ at. AreKeyed at (key_at keys')) (λ j key. slice_index_or (sym e j) key None) (subst (AreKeyed (get s)) (λ j i. lookup (nat_eq i) (sym f j)) k)

pub keyed_none : (s : Slab Mount) (keys : Keys) → s.slots ≡ [] → keys.entries ≡ [] → IsKeyed s keys
keyed_none s keys e f = record {
  held = λ i key g. absurd (none-some key (sym (ap (lookup (nat_eq i)) f) ∙ g));
  known = λ key m g. absurd (none-some m (rw e at g));
}

-- the mount of an ID is the one under its key
pub mount_keyed : (s : Slab Mount) (keys : Keys) → IsKeyed s keys → (i : ℕ) (o : Option ℕ) → key_at keys i ≡ o → mount_at (slab_mounts s) i ≡ option_and_then (get s) o
unfolding slab_mounts
mount_keyed s keys k i None e = none_found _ (λ m g. let f = slot_of_row s.slots i m g in none-some f.0 (sym e ∙ ap (key_at keys) (sym f.2) ∙ k.known f.0 m f.1))
mount_keyed s keys k i (Some key) e =
    let f = k.held i key e in
    ap (λ j. row_at id_of j (by_id s.slots)) (sym f.fits) ∙ row_of_slot s.slots (distinct_ids s keys k) key f.mount f.there ∙ sym f.there

module _ (s : Slab Mount) (keys : Keys) (k : IsKeyed s keys) where
  -- the mount under the key of an ID has that ID
  pub key_fits : (i key : ℕ) (m : Mount) → key_at keys i ≡ Some key → get s key ≡ Some m → m.id ≡ i
  key_fits i key m e g =
      let f = k.held i key e in
      ap (λ (x : Mount). x.id) (same_Some m f.mount (sym g ∙ f.there)) ∙ f.fits

  -- a mount that is not there has no key
  pub not_keyed : (i : ℕ) → mount_at (slab_mounts s) i ≡ None → key_at keys i ≡ None
  not_keyed i absent = none_found _ (λ key e. let h = k.held i key e in none-some h.mount (sym absent ∙ mount_keyed s keys k i (Some key) e ∙ h.there))

  -- a slot is written: the one of an ID, or a free one of a new ID
  module _ (new : Slab Mount) (keys' : Keys) (slot i : ℕ) (o : Option Mount) (u : Updates s new slot o) (at : key_at keys i ≡ option_map (λ _. slot) (get s slot)) (fits : IfSome o (λ m. m.id ≡ i))
      (puts : (q : ℕ) → key_at keys' q ≡ cond (eqb i q) (option_map (λ _. slot) o) (key_at keys q)) where
    here : (j : ℕ) (a : Mount) → get s j ≡ Some a → (j ≡ slot) ↔ (a.id ≡ i)
    here j a g = (
      λ (e : j ≡ slot). key_fits i j a (at ∙ ap (λ k. option_map (λ _. slot) (get s k)) (sym e) ∙ ap (option_map (λ _. slot)) g ∙ ap (λ k. Some k) (sym e)) g,
      λ (e : a.id ≡ i). sym (mapped (λ _. slot) (get s slot) j (sym at ∙ ap (key_at keys) (sym e) ∙ k.known j a g)).2,
    )

    fits_is : (m : Mount) → o ≡ Some m → m.id ≡ i
    fits_is m e = rw e at fits

    pub keyed_written : IsKeyed new keys'
    keyed_written = record {
      held = λ q j g. elim (cases_eq i q) [
        | inl same ↦
            let f = mapped (λ _. slot) o j (sym (puts q ∙ cond-true _ _ _ (eq-eqb i q same)) ∙ g) in
            record { mount = f.0; there = ap (get new) (sym f.2) ∙ u.changed ∙ f.1; fits = fits_is f.0 f.1 ∙ same }
        | inr off ↦
            let f = k.held q j (sym (puts q ∙ cond-false _ _ _ (ne_eqb i q off)) ∙ g) in
            record { mount = f.mount; there = u.others j (λ e. off (sym ((here j f.mount f.there).0 e) ∙ f.fits)) ∙ f.there; fits = f.fits }
      ];
      known = λ j a g. elim (cases_eq j slot) [
        | inl same ↦
            let is : o ≡ Some a = sym u.changed ∙ ap (get new) (sym same) ∙ g in
            puts a.id ∙ cond-true _ _ _ (eq-eqb i a.id (sym (fits_is a is))) ∙ ap (option_map (λ _. slot)) is ∙ ap (λ k. Some k) (sym same)
        | inr off ↦
            let h : get s j ≡ Some a = sym (u.others j off) ∙ g in
            puts a.id ∙ cond-false _ _ _ (ne_eqb i a.id (λ e. off ((here j a h).1 (sym e)))) ∙ k.known j a h
      ];
    }

    pub mounts_written : IsWritten (slab_mounts s) i o (slab_mounts new)
    mounts_written = record {
      rising = rises_table new;
      rows = λ q. row_cases q i _ _ _
          (λ e. mount_keyed new keys' keyed_written q _ (puts q ∙ cond-true _ _ _ (eq-eqb i q (sym e))) ∙ changed o u.changed)
          (λ ne.
          let off : i ≢ q = λ e. ne (sym e) in
          mount_keyed new keys' keyed_written q _ (puts q ∙ cond-false _ _ _ (ne_eqb i q off)) ∙ kept q off (key_at keys q) (k.held q) ∙ sym (mount_keyed s keys k q _ refl));
    }
      where
        changed : (p : Option Mount) → get new slot ≡ p → option_and_then (get new) (option_map (λ _. slot) p) ≡ p
        changed None e = refl
        changed (Some m) e = e

        kept : (q : ℕ) → i ≢ q → (p : Option ℕ) → ((j : ℕ) → p ≡ Some j → HoldsAt (get s) q j) → option_and_then (get new) p ≡ option_and_then (get s) p
        kept q off None h = refl
        kept q off (Some j) h = let f = h j refl in u.others j (λ e. off (sym ((here j f.mount f.there).0 e) ∙ f.fits))
