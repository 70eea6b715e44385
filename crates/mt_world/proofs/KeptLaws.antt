-- Which rows are kept stays known where the mount of one is added, and where one is left out.
use Rattle.std.proofs.Common.{◌≡◌, ◌≢◌, ◌⊎◌, ℕ, zero, suc, ◌<◌, Bool, true, false, cond, eqb, eq-eqb, List, [], ◌∷◌, length, set, slice_get, Option, Some, None, refl, sym, ap, subst, ◌∙◌, inl, inr, arith, if◌then◌else◌}
use Rattle.std.specs.Prelude.{◌≤◌, ◌^◌, is_some, not, unwrap_or}
use Rattle.std.specs.Option.{option_map, option_map_or}
use Rattle.std.proofs.lemmas.Bool.{cases_eq, ne_eqb}
use Rattle.std.proofs.lemmas.List.{length-set}
use Rattle.std.proofs.lemmas.Option.{same_Some, slice_get_within}
use Rattle.mt_skel.specs.Skeleton.{holds}
use Rattle.mt_mounts.specs.declared.mount.Mount.{Mount}
use Rattle.mt_mounts.specs.declared.mount.Place.{Place}
use Rattle.mt_mounts.specs.Forest.{mount_at, on, root_mount}
use Rattle.mt_mounts.proofs.SlotLaws.{row_put_here, row_put_later}
use Rattle.mt_peers.specs.Peers.{Peer}
use Rattle.mt_propagate.specs.World.{WorldView, private, state_of}
use Rattle.mt_propagate.specs.WellFormed.{IsWellFormed}
use Rattle.mt_propagate.specs.Limits.{too_many_mounts, too_many_spaces}
use Rattle.mt_world.specs.declared.misfit.Misfit.{Misfit}
use Rattle.mt_world.specs.declared.misfit.Misfit.TheVariants.{NoNumber, SameId, NoParent, Elsewhere, SamePlace, SecondRoot, TooDeep, NoRoom}
use Rattle.mt_world.specs.declared.row.TableRow.{TableRow}
use Rattle.mt_world.specs.Fitting.{why_unfit, why_unplaced, why_second_root}
use Rattle.mt_world.specs.Leaves.{IsSound, IsGrown, HasSameNumbers, with_leaf}
use Rattle.mt_world.specs.Places.{IsMountOf, IsWhyUnplaced, IsWhyNone, IsWhyNotPut, IsPut, HasSameMounts}
use Rattle.mt_world.specs.Rows.{is_root_of_table}
use Rattle.mt_world.specs.Told.{IsMounted}
use Rattle.mt_world.specs.Kept.{IsSetAt, HaveNumbers, HaveFilesystems, keeps_row, waits_for_parent, IsKeptRow, StandsRightly, IsParentless, WasWhy, AreKept}
use Rattle.mt_world.proofs.DirectoryLaws.{more_on, more_same, still_filed}
use Rattle.mt_world.proofs.FitLaws.{fits}
use Rattle.mt_world.proofs.LeafLaws.{no-state, state-same}
use Rattle.mt_world.proofs.ToldLaws.{still_told, root_told, leaf_told}

pub grown_same : (w : WorldView) → IsGrown w w
grown_same w = record { skel = more_same w.skel; mounts = λ i m e. e; count = omega arith; spaces = omega arith }

pub grown_on : (w v u : WorldView) → IsGrown w v → IsGrown v u → IsGrown w u
grown_on w v u g h = record {
  skel = more_on w.skel v.skel u.skel g.skel h.skel;
  mounts = λ i m e. h.mounts i m (g.mounts i m e);
  count = omega (arith, g.count, h.count);
  spaces = omega (arith, g.spaces, h.spaces);
}

-- ---- one place of a list is written

set_here : {X : Type 0} (xs : List X) (n : ℕ) (x : X) → n < length xs → slice_get (set xs n x) n ≡ Some x
set_here [] n x l = absurd (omega (arith, l))
set_here (y ∷ xs) zero x l = refl
set_here (y ∷ xs) (suc n) x l = set_here xs n x (omega (arith, l))

set_others : {X : Type 0} (xs : List X) (n k : ℕ) (x : X) → n ≢ k → slice_get (set xs n x) k ≡ slice_get xs k
set_others [] n k x ne = refl
set_others (y ∷ xs) zero zero x ne = absurd (ne refl)
set_others (y ∷ xs) zero (suc k) x ne = refl
set_others (y ∷ xs) (suc n) zero x ne = refl
set_others (y ∷ xs) (suc n) (suc k) x ne = set_others xs n k x (λ e. ne (ap suc e))

pub set_at : {X : Type 0} (xs : List X) (n : ℕ) (x : X) → n < length xs → IsSetAt xs (set xs n x) n x
set_at xs n x l = record { sized = length-set xs n x; here = set_here xs n x l; others = λ k ne. set_others xs n k x ne }

-- ---- what is kept of a reason

still_stands : (w v : WorldView) (rows : List TableRow) (r : TableRow) (above : Option TableRow) → IsSound w → IsSound v → IsGrown w v → StandsRightly w rows r above → StandsRightly v rows r above
still_stands w v rows r None h k g s = s
still_stands w v rows r (Some above) h k g s = (still_told w v h.well_formed k.well_formed g rows above s.0, s.1, s.2, s.3, s.4)

was_on : (w v : WorldView) (rows : List TableRow) (r : TableRow) (why : Misfit) → IsGrown w v → WasWhy w rows r why → WasWhy v rows r why
was_on w v rows r why g a = record { before = a.before; sound = a.sound; grown = grown_on a.before w v a.grown g; above = a.above; stands = a.stands; refused = a.refused }

-- ---- the parent of a row that stands rightly is there

module _ (w : WorldView) (rows : List TableRow) (r above : TableRow) (m : Mount) (p : Place) (t : IsMounted w rows above) (same : above.space ≡ r.space) (space : m.space ≡ r.space) (at : p.mount ≡ above.id) where
  parent_there : mount_at w.forest p.mount ≡ Some t.mount
  parent_there = ap (mount_at w.forest) at ∙ t.there

  parent_space : eqb t.mount.space m.space ≡ true
  parent_space = eq-eqb t.mount.space m.space (t.shows.space ∙ same ∙ sym space)

  -- so that it has a parent
  not_parentless : why_unplaced w m.space p ≡ Some NoParent → ⊥
  not_parentless e = go (holds w.skel t.mount.root p.dir) (is_some (on w.forest p)) (rw (parent_there, parent_space) at e)
    where
      go : (held stands : Bool) → (if not held then Some Elsewhere else (if stands then Some SamePlace else None)) ≡ Some NoParent → ⊥
      go true true f = absurd (cc)
      go true false f = absurd (cc)
      go false stands f = absurd (cc)

none_none : (s : _) (device : _) (path : _) → IsWhyNone s device path NoParent → ⊥
none_none s device path (inl a) = absurd (let e : NoParent ≡ NoRoom = a.0 in cc)
none_none s device path (inr a) = absurd (let e : NoParent ≡ TooDeep = a.0 in cc)

-- no mount is refused since its parent is not there
unfit_not_parentless : (w : WorldView) (rows : List TableRow) (r : TableRow) (above : Option TableRow) (m : Mount) → StandsRightly w rows r above → IsMountOf w.skel r above m → why_unfit w m ≡ Some NoParent → ⊥
unfit_not_parentless w rows r above m s o e = go (is_some (mount_at w.forest m.id)) (too_many_mounts w 1) e
  where
    at_root : (second many : Bool) → (if second then Some SecondRoot else (if many then Some NoRoom else None)) ≡ Some NoParent → ⊥
    at_root true many f = absurd (cc)
    at_root false true f = absurd (cc)
    at_root false false f = absurd (cc)

    placed : (a : Option TableRow) → StandsRightly w rows r a → IsMountOf w.skel r a m → option_map_or (why_unplaced w m.space) m.place (why_second_root w m.space) ≡ Some NoParent → ⊥
    placed None s o f = at_root (is_some (root_mount w.forest m.space)) (too_many_spaces w) (ap (λ q. option_map_or (why_unplaced w m.space) q (why_second_root w m.space)) (sym o.place) ∙ f)
    placed (Some above) s o f =
        not_parentless w rows r above m o.place.0 s.0 s.3 o.space o.place.2.on (ap (λ q. option_map_or (why_unplaced w m.space) q (why_second_root w m.space)) (sym o.place.1) ∙ f)

    go : (same many : Bool) → (if same then Some SameId else (if many then Some NoRoom else option_map_or (why_unplaced w m.space) m.place (why_second_root w m.space))) ≡ Some NoParent → ⊥
    go true many f = absurd (cc)
    go false true f = absurd (cc)
    go false false f = placed above s o f

pub not_for_parent : (w : WorldView) (rows : List TableRow) (r : TableRow) (above : Option TableRow) → StandsRightly w rows r above → IsWhyNotPut w r above NoParent → ⊥
not_for_parent w rows r above s (inr a) = unfit_not_parentless w rows r above a.0 s a.1 a.2
not_for_parent w rows r above s (inl (inl a)) = absurd (let e : NoParent ≡ NoNumber = a.0 in cc)
not_for_parent w rows r above s (inl (inr (inr a))) = none_none w.skel r.device r.root a
not_for_parent w rows r above s (inl (inr (inl a))) = by a.2
  where
    by : IsWhyUnplaced w.skel r a.0 NoParent → ⊥
    by (inl b) = absurd (let e : NoParent ≡ Elsewhere = b.0 in cc)
    by (inr b) = none_none w.skel a.0.device b.0 b.2

-- ---- the mount of one row more

-- a row that is kept does not wait
kept_waits : (left : List (Option Misfit)) (k : ℕ) → keeps_row left k → waits_for_parent left k → ⊥
kept_waits left k e f = let v : Some None ≡ Some (Some NoParent) = sym e ∙ f in absurd (cc)

-- no state changes where a private mount is added
unmoved : (w v : WorldView) (m : Mount) (i : ℕ) → IsWellFormed w → mount_at w.forest m.id ≡ None → state_of (with_leaf (record w { skel = v.skel }) m) i ≡ state_of w i
unmoved w v m i h e = state-same w.peering.peers m.id i (no-state w.forest w.peering.peers m.id h.same_mounts e)

module _ (w v : WorldView) (rows : List TableRow) (left next : List (Option Misfit)) (put : ℕ → Option ℕ) (k : ℕ) (r : TableRow) (above : Option TableRow)
    (a : AreKept w rows left put) (here : slice_get rows k ≡ Some r) (waiting : waits_for_parent left k) (stands : StandsRightly w rows r above) (sound : IsSound v) (grown : IsGrown w v) (numbers : HasSameNumbers w v) where
  -- the numbers are above those of the rows
  numbers_on : HaveNumbers v rows
  numbers_on i x e n = let b = a.numbers i x e n in (omega (arith, b.0, numbers.next_mount), omega (arith, b.1, numbers.next_space))

  filesystems_on : HaveFilesystems v.skel rows
  filesystems_on i x e = still_filed w.skel v.skel x.device grown.skel (a.filesystems i x e)

  few_on : (v.next_mount ≤ 2 ^ 62) × (v.next_space ≤ 2 ^ 62)
  few_on = (subst (λ n. n ≤ 2 ^ 62) (sym numbers.next_mount) a.few.0, subst (λ n. n ≤ 2 ^ 62) (sym numbers.next_space) a.few.1)

  other : (i : ℕ) → keeps_row left i → k ≢ i
  other i e same = kept_waits left i e (ap (λ j. slice_get left j) (sym same) ∙ waiting)

  module _ (p : IsPut w v r above) (set : IsSetAt left next k None) (after : ℕ → Option ℕ) (noted : (i : ℕ) → after i ≡ cond (eqb r.id i) (Some k) (put i)) where
    added : (i : ℕ) → mount_at v.forest i ≡ mount_at (with_leaf (record w { skel = v.skel }) p.mount).forest i
    added i = ap (λ u. mount_at u.forest i) p.world

    new_there : mount_at v.forest p.mount.id ≡ Some p.mount
    new_there = added p.mount.id ∙ row_put_here w.forest p.mount p.mount.id refl

    absent : mount_at w.forest r.id ≡ None
    absent = ap (mount_at w.forest) (sym p.of.id) ∙ (fits (record w { skel = v.skel }) p.mount p.fits).absent

    new_told : (o : Option TableRow) → StandsRightly w rows r o → IsMountOf v.skel r o p.mount → IsMounted v rows r
    new_told None s of = root_told v rows p.mount r sound.well_formed new_there of s
    new_told (Some on) s of = leaf_told v rows p.mount r on sound.well_formed new_there of (still_told w v a.sound.well_formed sound.well_formed grown rows on s.0) s.2 s.4

    after_here : after r.id ≡ Some k
    after_here = noted r.id ∙ ap (λ b. cond b (Some k) (put r.id)) (eq-eqb r.id r.id refl)

    after_off : (i : ℕ) → r.id ≢ i → after i ≡ put i
    after_off i off = noted i ∙ ap (λ b. cond b (Some k) (put i)) (ne_eqb r.id i off)

    told_on : (i : ℕ) (x : TableRow) → slice_get rows i ≡ Some x → keeps_row next i → IsMounted v rows x
    told_on i x e f = elim (cases_eq k i) [
      | inl same ↦ subst (IsMounted v rows) (same_Some r x (sym here ∙ ap (λ j. slice_get rows j) same ∙ e)) (new_told above stands p.of)
      | inr off ↦ still_told w v a.sound.well_formed sound.well_formed grown rows x (a.told i x e (sym (set.others i off) ∙ f))
    ]

    found_on : (i j : ℕ) → after i ≡ Some j → IsKeptRow rows next i j
    found_on i j e = elim (cases_eq r.id i) [
      | inl same ↦
          let at : k ≡ j = same_Some k j (sym after_here ∙ ap after same ∙ e) in
          record { row = r; there = ap (λ n. slice_get rows n) (sym at) ∙ here; named = same; kept = ap (λ n. slice_get next n) (sym at) ∙ set.here }
      | inr off ↦
          let f = a.found i j (sym (after_off i off) ∙ e) in
          record { row = f.row; there = f.there; named = f.named; kept = set.others j (other j f.kept) ∙ f.kept }
    ]

    known_on : (i : ℕ) (x : TableRow) → slice_get rows i ≡ Some x → keeps_row next i → after x.id ≡ Some i
    known_on i x e f = elim (cases_eq k i) [
      | inl same ↦
          let row : r ≡ x = same_Some r x (sym here ∙ ap (λ j. slice_get rows j) same ∙ e) in
          ap (λ (y : TableRow). after y.id) (sym row) ∙ after_here ∙ ap Some same
      | inr off ↦
          let old : keeps_row left i = sym (set.others i off) ∙ f in
          let t = a.told i x e old in
          after_off x.id (λ (same : r.id ≡ x.id). let v : None ≡ Some t.mount = sym absent ∙ ap (mount_at w.forest) same ∙ t.there in absurd (cc)) ∙ a.known i x e old
    ]

    only_on : (i : ℕ) (m : Mount) → mount_at v.forest i ≡ Some m → (j : ℕ) × (after i ≡ Some j)
    only_on i m e = elim (cases_eq p.mount.id i) [
      | inl same ↦ (k, ap after (sym same ∙ p.of.id) ∙ after_here)
      | inr off ↦
          let o = a.only i m (sym (row_put_later w.forest p.mount i off) ∙ sym (added i) ∙ e) in
          (o.0, after_off i (λ s. off (p.of.id ∙ s)) ∙ o.1)
    ]

    whys_on : (i : ℕ) (x : TableRow) (why : Misfit) → slice_get rows i ≡ Some x → slice_get next i ≡ Some (Some why) → (why ≡ NoParent) ⊎ WasWhy v rows x why
    whys_on i x why e f = elim (cases_eq k i) [
      | inl same ↦ let v : Some None ≡ Some (Some why) = sym set.here ∙ ap (λ j. slice_get next j) same ∙ f in absurd (cc)
      | inr off ↦ elim (a.whys i x why e (sym (set.others i off) ∙ f)) [ inl p ↦ inl p | inr was ↦ inr (was_on w v rows x why grown was) ]
    ]

    private_on : (i : ℕ) → state_of v i ≡ private
    private_on i =
        ap (λ u. state_of u i) p.world ∙ unmoved w v p.mount i (a.sound.well_formed) (fits (record w { skel = v.skel }) p.mount p.fits).absent ∙ a.private i

    pub kept_put : AreKept v rows next after
    kept_put = record { sound = sound; numbers = numbers_on; filesystems = filesystems_on; sized = set.sized ∙ a.sized; told = told_on; found = found_on; known = known_on; only = only_on; private = private_on; few = few_on; whys = whys_on }

  module _ (same : HasSameMounts w v) (why : Misfit) (told : IsWhyNotPut v r above why) (set : IsSetAt left next k (Some why)) where
    off : (i : ℕ) → keeps_row next i → k ≢ i
    off i e s = let v : Some None ≡ Some (Some why) = sym e ∙ ap (λ j. slice_get next j) (sym s) ∙ set.here in absurd (cc)

    told_left : (i : ℕ) (x : TableRow) → slice_get rows i ≡ Some x → keeps_row next i → IsMounted v rows x
    told_left i x e f = still_told w v a.sound.well_formed sound.well_formed grown rows x (a.told i x e (sym (set.others i (off i f)) ∙ f))

    found_left : (i j : ℕ) → put i ≡ Some j → IsKeptRow rows next i j
    found_left i j e = let f = a.found i j e in record { row = f.row; there = f.there; named = f.named; kept = set.others j (other j f.kept) ∙ f.kept }

    known_left : (i : ℕ) (x : TableRow) → slice_get rows i ≡ Some x → keeps_row next i → put x.id ≡ Some i
    known_left i x e f = a.known i x e (sym (set.others i (off i f)) ∙ f)

    only_left : (i : ℕ) (m : Mount) → mount_at v.forest i ≡ Some m → (j : ℕ) × (put i ≡ Some j)
    only_left i m e = a.only i m (ap (λ ms. mount_at ms i) (sym same.forest) ∙ e)

    whys_left : (i : ℕ) (x : TableRow) (y : Misfit) → slice_get rows i ≡ Some x → slice_get next i ≡ Some (Some y) → (y ≡ NoParent) ⊎ WasWhy v rows x y
    whys_left i x y e f = elim (cases_eq k i) [
      | inl s ↦
          let row : r ≡ x = same_Some r x (sym here ∙ ap (λ j. slice_get rows j) s ∙ e) in
          let reason : why ≡ y = let v : Some (Some why) ≡ Some (Some y) = sym set.here ∙ ap (λ j. slice_get next j) s ∙ f in cc in
          inr (subst (λ z. WasWhy v rows x z) reason (subst (λ z. WasWhy v rows z why) row (record {
            before = v;
            sound = sound;
            grown = grown_same v;
            above = above;
            stands = still_stands w v rows r above a.sound sound grown stands;
            refused = told;
          })))
      | inr ne ↦ elim (a.whys i x y e (sym (set.others i ne) ∙ f)) [ inl p ↦ inl p | inr was ↦ inr (was_on w v rows x y grown was) ]
    ]

    private_left : (i : ℕ) → state_of v i ≡ private
    private_left i = ap (λ p. state_of (record w { peering = p }) i) same.peering ∙ a.private i

    pub kept_left : AreKept v rows next put
    kept_left = record { sound = sound; numbers = numbers_on; filesystems = filesystems_on; sized = set.sized ∙ a.sized; told = told_left; found = found_left; known = known_left; only = only_left; private = private_left; few = few_on; whys = whys_left }

    pub left_why : why ≢ NoParent
    left_why e = not_for_parent v rows r above (still_stands w v rows r above a.sound sound grown stands) (subst (IsWhyNotPut v r above) e told)

-- ---- where a row stands

module _ (w : WorldView) (rows : List TableRow) (left : List (Option Misfit)) (put : ℕ → Option ℕ) (a : AreKept w rows left put) (r : TableRow) where
  pub stands_on : (above : TableRow) (k : ℕ) → put r.parent ≡ Some k → slice_get rows k ≡ Some above → above.space ≡ r.space → is_root_of_table rows r ≡ false → StandsRightly w rows r (Some above)
  stands_on above k e there same low =
      let f = a.found r.parent k e in
      let row : f.row ≡ above = same_Some f.row above (sym f.there ∙ there) in
      (a.told k above there f.kept, (k, there), ap (λ (x : TableRow). x.id) (sym row) ∙ f.named, same, low)

  pub parentless : is_root_of_table rows r ≡ false → ((k : ℕ) (above : TableRow) → put r.parent ≡ Some k → slice_get rows k ≡ Some above → above.space ≡ r.space → ⊥) → IsParentless rows left r
  parentless low none = record {
    low = low;
    none = λ k above there kept named space. none k above (ap put (sym named) ∙ a.known k above there kept) there space;
  }

-- ---- before any row is put

-- all is private where there is no mount
none_private : (w : WorldView) → IsWellFormed w → w.forest ≡ [] → (i : ℕ) → state_of w i ≡ private
none_private w h bare i = ap (λ o. unwrap_or (option_map (λ (e : Peer). e.state) o) private) (no-state w.forest w.peering.peers i h.same_mounts (ap (λ ms. mount_at ms i) bare))

pub kept_none : (w : WorldView) (rows : List TableRow) (left : List (Option Misfit)) (put : ℕ → Option ℕ) → IsSound w → HaveNumbers w rows → HaveFilesystems w.skel rows → w.forest ≡ [] → (w.next_mount ≤ 2 ^ 62) × (w.next_space ≤ 2 ^ 62) → length left ≡ length rows
    → ((k : ℕ) → k < length rows → waits_for_parent left k) → ((i : ℕ) → put i ≡ None) → AreKept w rows left put
kept_none w rows left put sound numbers filesystems bare few sized all none = record {
  sound = sound;
  numbers = numbers;
  filesystems = filesystems;
  sized = sized;
  told = λ k r e f. absurd (kept_waits left k f (all k (slice_get_within rows k r e)));
  found = λ i k e. let v : None ≡ Some k = sym (none i) ∙ e in absurd (cc);
  known = λ k r e f. absurd (kept_waits left k f (all k (slice_get_within rows k r e)));
  only = λ i m e. let v : None ≡ Some m = ap (λ ms. mount_at ms i) (sym bare) ∙ e in absurd (cc);
  private = none_private w sound.well_formed bare;
  few = few;
  whys = λ k r why e f. inl (let v : Some (Some NoParent) ≡ Some (Some why) = sym (all k (slice_get_within rows k r e)) ∙ f in let s : NoParent ≡ why = cc in sym s);
}
