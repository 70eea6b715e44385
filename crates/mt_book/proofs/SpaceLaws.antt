-- A namespace that is there stays until it is dropped or attached, and one that is gone does not come again: so a namespace has its
-- posts between these two.
use Rattle.std.proofs.Common.{◌≡◌, ◌⊎◌, inl, inr, ℕ, ◌<◌, ◌≤◌, Bool, true, false, cond, ◌==◌, eqb-true, eq-eqb, List, [], ◌∷◌, ◌++◌, map, length, Some, None, Ok, refl, sym, ap, ◌∙◌, subst, arith, true≢false}
use Rattle.std.specs.List.{filter}
use Rattle.std.proofs.lemmas.Bool.{cases_eq, false_from_ne_true}
use Rattle.mt_skel.specs.Keyed.{without}
use Rattle.mt_skel.specs.Skeleton.{IsSkeleton}
use Rattle.mt_skel.proofs.ElementLaws.{In, row_in, in_filtered, in_map, in_mapped, in_flat}
use Rattle.mt_mounts.specs.declared.mount.Mount.{Mount}
use Rattle.mt_mounts.specs.declared.mount.Place.{Place}
use Rattle.mt_mounts.specs.Forest.{id_of, mount_at}
use Rattle.mt_propagate.specs.World.{WorldView, is_space, space_of, with_tree}
use Rattle.mt_propagate.specs.WellFormed.{IsWellFormed}
use Rattle.mt_propagate.specs.Receivers.{targets}
use Rattle.mt_propagate.specs.Places.{arranged, new_mounts, copied_mount}
use Rattle.mt_propagate.specs.Copies.{Source, destinations}
use Rattle.mt_propagate.specs.Copied.{copied}
use Rattle.mt_propagate.proofs.RowLaws.{mapped-row, row-second, appended-row, kept-row}
use Rattle.mt_propagate.proofs.CopyRowLaws.{space_is}
use Rattle.mt_propagate.proofs.WalkLaws.{StandsIn, walked, number_free}
use Rattle.mt_propagate.proofs.ListedLaws.{arranged-id, arranged-here, arranged-still, arranged-away, arranged-either}
use Rattle.mt_propagate.proofs.DetachedTreeLaws.{space_root}
use Rattle.mt_bind.specs.Spaces.{with_space, with_copy, originals, without_space}
use Rattle.mt_bind.specs.Copying.{copy_number, copy_of, with_copies}
use Rattle.mt_bind.specs.Pivoting.{pivoted_mount, with_pivot}
use Rattle.mt_bind.specs.Attaching.{whole_tree}
use Rattle.mt_bind.proofs.AcceptedLaws.{path_end, new_space_accepted, copy_space_accepted, drop_space_accepted, tree_made_accepted, attached_accepted}
use Rattle.mt_bind.proofs.AttachingLaws.{whole_moves, whole_space}
use Rattle.mt_bind.proofs.OpeningLaws.{opened_root}
use Rattle.mt_bind.proofs.SpaceLaws.{new_root}
use Rattle.mt_bind.proofs.SourceCopyLaws.{copy-in}
use Rattle.mt_bind.proofs.NamespaceCopyLaws.{original, originals-are}
use Rattle.mt_setattr.specs.Change.{changed_mount, is_chosen, with_change}
use Rattle.mt_info.specs.declared.row.Row.{Row}
use Rattle.mt_info.specs.Table.{row_of, table_of}
use Rattle.mt_book.specs.declared.command.Command.{Command}
use Rattle.mt_book.specs.declared.command.Command.TheVariants.{NewSpace, CopySpace, DropSpace, OpenTree, NewTree, MoveTree}
use Rattle.mt_book.specs.declared.command.Reply.{Reply}
use Rattle.mt_book.specs.Step.{is_less, act, step, makes_space, ends_space}
use Rattle.mt_book.proofs.EffectLaws.{number_ok, done_ok, effect, by_act, step_accepted}
use Rattle.mt_book.proofs.StepLaws.{step_kept}
use Rattle.mt_book.proofs.HasLaws.{Has, step_has, space_has, has_space}

-- a namespace that is there stays through a command that does not end it
pub step_stays : (w : WorldView) (c : Command) (v : WorldView) (r : Reply) (n : ℕ) → IsWellFormed w → IsSkeleton w.skel → step w c ≡ Ok (v, r) → ends_space n c ≡ false → is_space w n ≡ true → is_space v n ≡ true
step_stays w c v r n g s e d is = has_space n v (step_kept w c v r g s e).0 (step_has n w c v r g e d (space_has n w g is))

-- ---- where a namespace comes from

-- of some mounts, each that is in the namespace n shows that it was there before
abbrev WasThere : ℕ → WorldView → List Mount → Type 0
WasThere n w ms = (i : ℕ) (m : Mount) → mount_at ms i ≡ Some m → m.space ≡ n → Has n w

was_all : (n : ℕ) (w : WorldView) → WasThere n w w.forest
was_all n w i m e s = record { id = i; mount = m; there = e; space = s }

was_left : (n : ℕ) (w : WorldView) (t : Mount → Bool) → IsWellFormed w → WasThere n w (without t w.forest)
was_left n w t h i m e s = was_all n w i m (kept-row id_of t w.forest h.forest.rising i m e).0 s

was_mapped : (n : ℕ) (w : WorldView) (f : Mount → Mount) (ms : List Mount) → ((m : Mount) → id_of (f m) ≡ id_of m) → ((m : Mount) → (f m).space ≡ m.space) → WasThere n w ms → WasThere n w (map f ms)
was_mapped n w f ms ids spaces was i m e s =
    let x = mapped-row id_of f ids ms i m e in
    was i x.0 x.1 (sym (spaces x.0) ∙ ap (λ (y : Mount). y.space) (sym x.2) ∙ s)

-- a root mount of a namespace after a command was there before, or it is of the next namespace
abbrev ComesFrom : ℕ → WorldView → List Mount → Type 0
ComesFrom n w ms = (i : ℕ) (m : Mount) → mount_at ms i ≡ Some m → m.place ≡ None → m.space ≡ n → Has n w ⊎ (w.next_space ≤ n)

from_before : (n : ℕ) (w : WorldView) (ms : List Mount) → WasThere n w ms → ComesFrom n w ms
from_before n w ms was i m e none s = inl (was i m e s)

from_more : (n : ℕ) (w : WorldView) (old more : List Mount) → WasThere n w old → ((m : Mount) → In m more → m.place ≡ None → w.next_space ≤ m.space) → ComesFrom n w (old ++ more)
from_more n w old more was new i m e none s = elim (appended-row id_of old more i m e) [
  | inl at ↦ inl (was i m at s)
  | inr at ↦ let low = new m (row_in id_of i more m at) none in inr (omega (arith, low, s))
]

-- each copy of a mount has a place
new_placed : (w : WorldView) (src : Source) (p : Place) (m : Mount) → In m (new_mounts w src p) → m.place ≡ None → ⊥
new_placed w src p m there none =
    let at = in_flat (λ t. map (copied_mount w src p t) src.mounts) m (cond src.moved (targets w p) (destinations w src p)) there in
    let x = in_map (copied_mount w src p at.0) m src.mounts at.2 in
    let bad : (copied_mount w src p at.0 x.0).place ≡ None = ap (λ (y : Mount). y.place) x.2 ∙ none in
    absurd (cc)

copies_from : (n : ℕ) (w : WorldView) (src : Source) (p : Place) → WasThere n w (map (arranged w src p) w.forest) → ComesFrom n w (map (arranged w src p) w.forest ++ new_mounts w src p)
copies_from n w src p was = from_more n w _ (new_mounts w src p) was (λ m there none. absurd (new_placed w src p m there none))

-- what comes to another namespace comes to that of the place, which was there
was_arranged : (n k : ℕ) (w : WorldView) (src : Source) (p : Place) → StandsIn w k p → WasThere n w (map (arranged w src p) w.forest)
was_arranged n k w src p on i m e s =
    let x = mapped-row id_of (arranged w src p) (arranged-id w src p) w.forest i m e in
    arranged-either w src p (λ j. j ≡ n → Has n w) x.0 (λ t. was_all n w i x.0 x.1 t)
    (λ t. record { id = p.mount; mount = on.0; there = on.1; space = sym (space_is w p.mount on.0 on.1) ∙ t })
    (ap (λ (y : Mount). y.space) (sym x.2) ∙ s)

step_from : (n : ℕ) (w : WorldView) (c : Command) (v : WorldView) (r : Reply) → IsWellFormed w → step w c ≡ Ok (v, r) → ComesFrom n w v.forest
unfolding with_space with_copies without_space copied with_pivot with_change
step_from n w c v r g e = effect w c v r (λ x. ComesFrom n w x.forest) e (λ u l from. from) (record {
  skel = λ t made. from_before n w _ (was_all n w);
  space = λ f. from_more n w w.forest _ (was_all n w) (λ m there none. elim there [
    | inl here ↦ omega (arith, ap (λ (y : Mount). y.space) here)
    | inr none ↦ absurd none
  ]);
  copy = λ k less there. from_more n w w.forest _ (was_all n w) (λ m there none.
      let x = in_map (copy_of w (map id_of (originals w k))) m (originals w k) there in
      omega (arith, ap (λ (y : Mount). y.space) x.2));
  end = λ k is. from_before n w _ (was_left n w _ g);
  copies = λ src p still. copies_from n w src p (was_mapped n w (arranged w src p) w.forest (arranged-id w src p) (arranged-still w src p still) (was_all n w));
  pivot = λ i j p. from_before n w _ (was_mapped n w (pivoted_mount i j p) w.forest (λ m. refl) (λ m. refl) (was_all n w));
  gone = λ goes can. from_before n w _ (was_mapped n w _ _ (λ m. refl) (λ m. refl) (was_left n w _ g));
  change = λ change i. from_before n w _ (was_mapped n w (changed_mount change (is_chosen w change i)) w.forest (λ m. refl) (λ m. refl) (was_all n w));
  tree = λ f. from_more n w w.forest _ (was_all n w) (λ m there none. elim there [
    | inl here ↦ omega (arith, ap (λ (y : Mount). y.space) here)
    | inr none ↦ absurd none
  ]);
  opened = λ sources. from_more n w w.forest _ (was_all n w) (λ m there none.
      let x = in_map (copy_of w (map id_of sources)) m sources there in
      omega (arith, ap (λ (y : Mount). y.space) x.2));
  attached = λ tree k path is there apart p on. copies_from n w (whole_tree w tree) p (was_arranged n k w (whole_tree w tree) p (on g));
})

-- the table of a namespace that is there has a row
pub has_row : (w : WorldView) (n : ℕ) → IsWellFormed w → is_space w n ≡ true → 1 ≤ length (table_of w n)
has_row w n h is =
    let x = space_has n w h is in
    let on : (x.mount.space == n) ≡ true = eq-eqb x.mount.space n x.space in
    some_in (table_of w n) (row_of w x.mount) (in_mapped (row_of w) x.mount (filter (λ (m : Mount). m.space == n) w.forest) (in_filtered (λ (m : Mount). m.space == n) x.mount w.forest (row_in id_of x.id w.forest x.mount x.there) on))
  where
    some_in : (t : List Row) (r : Row) → In r t → 1 ≤ length t
    some_in [] r there = absurd there
    some_in (q ∷ t) r there = omega arith

-- a namespace that is made is there
root_has : (w : WorldView) (f : ℕ) → IsWellFormed w → Has w.next_space (with_space w f)
unfolding with_space
root_has w f h =
    let here : mount_at (new_root w f ∷ []) w.next_mount ≡ Some (new_root w f) = ap (λ b. cond b (Some (new_root w f)) None) (eq-eqb w.next_mount w.next_mount refl) in
    record { id = w.next_mount; mount = new_root w f; there = row-second id_of w.forest (new_root w f ∷ []) w.next_mount (new_root w f) (number_free w h) here; space = refl }

copy_has : (w : WorldView) (k : ℕ) (less : Bool) → IsWellFormed w → Has k w → Has w.next_space (with_copy w k less)
unfolding with_copies
copy_has w k less h x = record { id = copy_number w (map id_of (originals w k)) x.id; mount = _; there = copy-in w h (originals w k) (originals-are w h k) x.id x.mount (original w h k x.id x.mount x.there x.space); space = refl }

tree_has : (w : WorldView) (f : ℕ) → IsWellFormed w → Has w.next_space (with_tree (with_space w f) w.next_space)
tree_has w f h = let x = root_has w f h in record { id = x.id; mount = x.mount; there = x.there; space = x.space }

acted_makes : (w : WorldView) (c : Command) (v : WorldView) (r : Reply) → IsWellFormed w → act w c ≡ Ok (v, r) → makes_space c ≡ true → Has w.next_space v
unfolding act
acted_makes w (NewSpace fs) v r g e m = let q = number_ok _ v r e in subst (Has w.next_space) (new_space_accepted w fs v q.0 q.1).world (root_has w _ g)
acted_makes w (CopySpace k privilege) v r g e m =
    let q = number_ok _ v r e in
    let a = copy_space_accepted w k (is_less privilege) v q.0 q.1 in
    subst (Has w.next_space) a.world (copy_has w k (is_less privilege) g (space_has k w g a.there))
acted_makes w (OpenTree n path recursive) v r g e m =
    let q = number_ok _ v r e in
    let root = opened_root w n path recursive v q.0 g q.1 in
    record { id = root.0; mount = root.1; there = root.2; space = root.3 }
acted_makes w (NewTree fs) v r g e m = let q = number_ok _ v r e in subst (Has w.next_space) (tree_made_accepted w fs v q.0 q.1).world (tree_has w _ g)
acted_makes w c v r g e m = absurd (true≢false (sym m))

step_makes : (w : WorldView) (c : Command) (v : WorldView) (r : Reply) → IsWellFormed w → step w c ≡ Ok (v, r) → makes_space c ≡ true → Has w.next_space v
step_makes w c v r g e m = by_act w c v r (Has w.next_space) e (λ u a. acted_makes w c u r g a m) (λ u l x. record { id = x.id; mount = x.mount; there = x.there; space = x.space })

-- so the namespace that a command makes has the next number, and is there
pub made_there : (w : WorldView) (c : Command) (v : WorldView) (r : Reply) → IsWellFormed w → IsSkeleton w.skel → step w c ≡ Ok (v, r) → makes_space c ≡ true → is_space v w.next_space ≡ true
made_there w c v r g s e m = has_space w.next_space v (step_kept w c v r g s e).0 (step_makes w c v r g e m)

-- no root mount of a namespace is among these
abbrev HasNoRoot : ℕ → List Mount → Type 0
HasNoRoot n ms = (i : ℕ) (m : Mount) → mount_at ms i ≡ Some m → m.place ≡ None → m.space ≡ n → ⊥

-- a namespace that is dropped has none
dropped_ends : (w : WorldView) (u : WorldView) (r : Reply) (n : ℕ) → IsWellFormed w → act w (DropSpace n) ≡ Ok (u, r) → HasNoRoot n u.forest
unfolding act without_space
dropped_ends w u r n g e i m there none space =
    let at : mount_at (without_space w n).forest i ≡ Some m = ap (λ (y : WorldView). mount_at y.forest i) (drop_space_accepted w n u (done_ok _ u r e)).world ∙ there in
    let off = (kept-row id_of (λ (x : Mount). x.space == n) w.forest g.forest.rising i m at).1 in
    true≢false (sym (eq-eqb m.space n space) ∙ off)

-- and one that is attached
attached_ends : (w : WorldView) (u : WorldView) (r : Reply) (tree k : ℕ) (path : List (List ℕ)) → IsWellFormed w → act w (MoveTree tree k path) ≡ Ok (u, r) → HasNoRoot tree u.forest
unfolding act copied
attached_ends w u r tree k path g e i m there none space =
    let a = attached_accepted w tree k path u (done_ok _ u r e) in
    let p = path_end w k path in
    let src = whole_tree w tree in
    let at : mount_at (copied w src p).forest i ≡ Some m = ap (λ (y : WorldView). mount_at y.forest i) a.world ∙ there in
    elim (appended-row id_of (map (arranged w src p) w.forest) (new_mounts w src p) i m at) [
      | inl old ↦
          let y = mapped-row id_of (arranged w src p) (arranged-id w src p) w.forest i m old in
          let on = (walked w k g path p a.ended).0 in
          let home : space_of w p.mount ≡ k = space_is w p.mount on.0 on.1 ∙ on.2 in
          let here = ap (λ (x : Mount). x.space) (sym y.2) ∙ space in
          elim (cases_eq y.0.space src.top.space) [
            | inl same ↦ true≢false (sym (eq-eqb k tree (sym home ∙ sym (arranged-here w src p (whole_moves w tree) y.0 same) ∙ here)) ∙ a.apart)
            | inr off ↦ off (sym (arranged-away w src p y.0 off) ∙ here ∙ sym (whole_space w tree a.there))
          ]
      | inr new ↦ new_placed w src p m (row_in id_of i (new_mounts w src p) m new) none
    ]

acted_ends : (w : WorldView) (c : Command) (u : WorldView) (r : Reply) (n : ℕ) → IsWellFormed w → act w c ≡ Ok (u, r) → ends_space n c ≡ true → HasNoRoot n u.forest
acted_ends w (DropSpace k) u r n g e d = subst (λ j. HasNoRoot j u.forest) (eqb-true k n d) (dropped_ends w u r k g e)
acted_ends w (MoveTree tree k path) u r n g e d = subst (λ j. HasNoRoot j u.forest) (eqb-true tree n d) (attached_ends w u r tree k path g e)
acted_ends w c u r n g e d = absurd (true≢false (sym d))

-- so each one that a command ends is gone
pub step_ends : (w : WorldView) (c : Command) (v : WorldView) (r : Reply) (n : ℕ) → IsWellFormed w → IsSkeleton w.skel → step w c ≡ Ok (v, r) → ends_space n c ≡ true → is_space v n ≡ false
step_ends w c v r n g s e d = false_from_ne_true (is_space v n) (λ is.
    let root = space_root v.forest (step_kept w c v r g s e).0.forest.rising n is in
    by_act w c v r (λ x. HasNoRoot n x.forest) e (λ u a. acted_ends w c u r n g a d) (λ u l none. none) root.0.id root.0 root.1 root.2 root.3)

-- which was there
acted_there : (w : WorldView) (c : Command) (u : WorldView) (r : Reply) (n : ℕ) → act w c ≡ Ok (u, r) → ends_space n c ≡ true → is_space w n ≡ true
unfolding act
acted_there w (DropSpace k) u r n e d = subst (λ j. is_space w j ≡ true) (eqb-true k n d) (drop_space_accepted w k u (done_ok _ u r e)).there
acted_there w (MoveTree tree k path) u r n e d = subst (λ j. is_space w j ≡ true) (eqb-true tree n d) (attached_accepted w tree k path u (done_ok _ u r e)).there
acted_there w c u r n e d = absurd (true≢false (sym d))

pub ended_there : (w : WorldView) (c : Command) (v : WorldView) (r : Reply) (n : ℕ) → step w c ≡ Ok (v, r) → ends_space n c ≡ true → is_space w n ≡ true
ended_there w c v r n e d = let a = step_accepted w c v r e in acted_there w c a.done r n a.acted d

-- one that was there and is gone does not come again
pub step_gone : (w : WorldView) (c : Command) (v : WorldView) (r : Reply) (n : ℕ) → IsWellFormed w → IsSkeleton w.skel → step w c ≡ Ok (v, r) → n < w.next_space → is_space w n ≡ false → is_space v n ≡ false
step_gone w c v r n g s e low gone = false_from_ne_true (is_space v n) (λ is.
    let h = (step_kept w c v r g s e).0 in
    let x = space_has n v h is in
    let m = h.forest.rooted x.id x.mount x.there in
    elim (step_from n w c v r g e m.0 m.1 m.2 m.3 (m.4 ∙ x.space)) [
      | inl was ↦ true≢false (sym (has_space n w g was) ∙ gone)
      | inr late ↦ absurd (omega (arith, low, late))
    ])
