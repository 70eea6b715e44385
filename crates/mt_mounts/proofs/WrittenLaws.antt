-- The mounts of a forest of which the one of an ID was written: it has come, has gone or was changed, and each other is as it was.
use Rattle.std.proofs.Common.{◌≡◌, ◌≢◌, ◌⊎◌, ℕ, Bool, true, false, cond, not, eqb, eq-eqb, List, [], ◌∷◌, map, Option, Some, None, refl, sym, ap, ◌∙◌, inl, inr, arith}
use Rattle.std.specs.Option.{option_map, option_and_then}
use Rattle.std.proofs.lemmas.Bool.{cases_eq, ne_eqb, cond-true, cond-false}
use Rattle.std.proofs.lemmas.Bool.Decides.{nat_tests}
use Rattle.std.proofs.lemmas.Iterator.Adapters.{option_map_id}
use Rattle.mt_skel.specs.Keyed.{put, rises}
use Rattle.mt_skel.proofs.KeyedLaws.{row_at-put, row_at-key, row_at-filter, row_at-map, rises-put, rises-filter, rises-map, same_rows, passing}
use Rattle.mt_lists.specs.Lists.{with_number}
use Rattle.mt_lists.specs.Log.{AreAlikeBut}
use Rattle.mt_lists.specs.Numbered.{rows_by}
use Rattle.mt_lists.proofs.LogLaws.{not-only}
use Rattle.mt_lists.proofs.NumberedLaws.{changed-by}
use Rattle.mt_mounts.specs.declared.mount.Place.{Place}
use Rattle.mt_mounts.specs.declared.mount.Mount.{Mount}
use Rattle.mt_mounts.specs.declared.mount.Attrs.{Attrs}
use Rattle.mt_mounts.specs.Forest.{id_of, mount_at}
use Rattle.mt_mounts.specs.ForestView.{with_attrs, with_place, without_id}
use Rattle.mt_mounts.specs.Follow.{given_attrs}

-- under the ID stands this mount or none, and under each other what stood there
pub record IsWritten (ms : List Mount) (i : ℕ) (o : Option Mount) (after : List Mount) : Type 0 where
  pub rising : rises id_of after ≡ true
  pub rows : (q : ℕ) → mount_at after q ≡ cond (eqb q i) o (mount_at ms q)

-- however it came about, the mounts are the same
pub written_once : (ms : List Mount) (i : ℕ) (o : Option Mount) (xs ys : List Mount) → IsWritten ms i o xs → IsWritten ms i o ys → xs ≡ ys
written_once ms i o xs ys x y = same_rows id_of xs ys x.rising y.rising (λ q. x.rows q ∙ sym (y.rows q))

module _ (ms : List Mount) (i : ℕ) (o : Option Mount) (after : List Mount) (w : IsWritten ms i o after) where
  -- what is found under the ID, and under another
  pub written_here : (q : ℕ) → q ≡ i → mount_at after q ≡ o
  written_here q e = w.rows q ∙ cond-true _ _ _ (eq-eqb q i e)

  pub written_other : (q : ℕ) → q ≢ i → mount_at after q ≡ mount_at ms q
  written_other q ne = w.rows q ∙ cond-false _ _ _ (ne_eqb q i ne)

  -- a mount that is there is the one that was written, or was there
  pub written_cases : (q : ℕ) (x : Mount) → mount_at after q ≡ Some x → ((q ≡ i) × (o ≡ Some x)) ⊎ ((q ≢ i) × (mount_at ms q ≡ Some x))
  written_cases q x e = elim (cases_eq q i) [
    | inl at ↦ inl (at, sym (written_here q at) ∙ e)
    | inr off ↦ inr (off, sym (written_other q off) ∙ e)
  ]

  -- except for the ID all is found as before
  pub but_written : AreAlikeBut (i ∷ []) (mount_at ms) (mount_at after)
  but_written q e = sym (written_other q (not-only i q e))

  -- what a list of their numbers is
  pub rows_written : (number : Mount → Option ℕ) → rises id_of ms ≡ true → rows_by id_of number after ≡ with_number i (option_and_then number o) (rows_by id_of number ms)
  rows_written number r =
      changed-by id_of number ms after i (option_and_then number o) r w.rising (ap (option_and_then number) (written_here i refl)) (λ q ne. ap (option_and_then number) (written_other q ne))

-- a look-up that is told under the ID and under each other
pub row_cases : {A : Type 0} (q i : ℕ) (a o b : A) → (q ≡ i → a ≡ o) → (q ≢ i → a ≡ b) → a ≡ cond (eqb q i) o b
row_cases q i a o b here other = elim (cases_eq q i) [
  | inl at ↦ here at ∙ sym (cond-true _ _ _ (eq-eqb q i at))
  | inr off ↦ other off ∙ sym (cond-false _ _ _ (ne_eqb q i off))
]

-- a mount at another place, and what `with_attrs` makes of each mount
abbrev pub moved_to : Place → Mount → Mount
moved_to p m = record m { place = Some p }

abbrev pub attrs_of : ℕ → Attrs → Mount → Mount
attrs_of i a m = record m { attrs = cond (eqb m.id i) a m.attrs }

-- what is found once the mount of an ID was changed, by a function that leaves the others
module _ (f : Bool → Mount → Mount) (keeps : (b : Bool) (m : Mount) → (f b m).id ≡ m.id) (left : (m : Mount) → f false m ≡ m) (ms : List Mount) (i : ℕ) (o : Option Mount) (is : mount_at ms i ≡ o) where
  at : (q : ℕ) (b : Bool) → eqb q i ≡ b → mount_at (map (λ m. f (eqb m.id i) m) ms) q ≡ option_map (f b) (mount_at ms q)
  at q b e = row_at-map id_of (λ m. f (eqb m.id i) m) (λ m. keeps (eqb m.id i) m) q ms ∙ go (mount_at ms q) (row_at-key id_of q ms)
    where
      go : (p : Option Mount) → ((m : Mount) → p ≡ Some m → m.id ≡ q) → option_map (λ m. f (eqb m.id i) m) p ≡ option_map (f b) p
      go None k = refl
      go (Some m) k = ap (λ c. Some (f c m)) (ap (λ j. eqb j i) (k m refl) ∙ e)

  changed_rows : (q : ℕ) → mount_at (map (λ m. f (eqb m.id i) m) ms) q ≡ cond (eqb q i) (option_map (f true) o) (mount_at ms q)
  changed_rows q = row_cases q i _ _ _
      (λ e. at q true (eq-eqb q i e) ∙ ap (option_map (f true)) (ap (mount_at ms) e ∙ is))
      (λ ne. at q false (ne_eqb q i ne) ∙ (λ j. option_map (λ m. left m j) (mount_at ms q)) ∙ option_map_id (mount_at ms q))

  changed_written : rises id_of ms ≡ true → IsWritten ms i (option_map (f true) o) (map (λ m. f (eqb m.id i) m) ms)
  changed_written r = record { rising = rises-map id_of (λ m. f (eqb m.id i) m) (λ m. keeps (eqb m.id i) m) ms ∙ r; rows = changed_rows }

-- a mount that is moved stands at the new place, and each other is as it was
pub place_rows : (ms : List Mount) (i : ℕ) (p : Place) (q : ℕ) → mount_at (with_place i p ms) q ≡ cond (eqb q i) (option_map (moved_to p) (mount_at ms i)) (mount_at ms q)
place_rows ms i p q = changed_rows (λ b m. record m { place = cond b (Some p) m.place }) (λ b m. refl) (λ m. refl) ms i (mount_at ms i) refl q

-- each change of mounts that rise
module _ (ms : List Mount) (r : rises id_of ms ≡ true) where
  pub put_written : (m : Mount) → IsWritten ms m.id (Some m) (put id_of m ms)
  put_written m = record { rising = rises-put id_of m ms r; rows = λ q. row_at-put id_of q m ms }

  pub without_written : (i : ℕ) → IsWritten ms i None (without_id i ms)
  without_written i = record {
    rising = rises-filter id_of (λ m. not (eqb m.id i)) ms r;
    rows = λ q. row_at-filter id_of (λ m. not (eqb m.id i)) q ms r ∙ go q (mount_at ms q) (row_at-key id_of q ms);
  }
    where
      go : (q : ℕ) (o : Option Mount) → ((m : Mount) → o ≡ Some m → m.id ≡ q) → passing (λ m. not (eqb m.id i)) o ≡ cond (eqb q i) None o
      go q None k = grind (arith, nat_tests)
      go q (Some m) k = let e = k m refl in grind (arith, nat_tests)

  module _ (i : ℕ) (o : Option Mount) (is : mount_at ms i ≡ o) where
    pub left_written : IsWritten ms i o ms
    left_written = record { rising = r; rows = λ q. row_cases q i _ o _ (λ e. ap (mount_at ms) e ∙ is) (λ ne. refl) }

    pub attrs_written : (a : Attrs) → IsWritten ms i (option_map (given_attrs a) o) (with_attrs i a ms)
    attrs_written a = changed_written (λ b m. record m { attrs = cond b a m.attrs }) (λ b m. refl) (λ m. refl) ms i o is r

    pub place_written : (p : Place) → IsWritten ms i (option_map (moved_to p) o) (with_place i p ms)
    place_written p = changed_written (λ b m. record m { place = cond b (Some p) m.place }) (λ b m. refl) (λ m. refl) ms i o is r

  -- a mount that is not there
  module _ (i : ℕ) (absent : mount_at ms i ≡ None) where
    pub without_absent : ms ≡ without_id i ms
    without_absent = written_once ms i None ms (without_id i ms) (left_written i None absent) (without_written i)

    pub attrs_absent : (a : Attrs) → ms ≡ with_attrs i a ms
    attrs_absent a = written_once ms i None ms (with_attrs i a ms) (left_written i None absent) (attrs_written i None absent a)

    pub place_absent : (p : Place) → ms ≡ with_place i p ms
    place_absent p = written_once ms i None ms (with_place i p ms) (left_written i None absent) (place_written i None absent p)
