-- A namespace that is there has a mount, and keeps one through each command that does not end it.
use Rattle.std.proofs.Common.{◌≡◌, ◌⊎◌, inl, inr, ℕ, ◌<◌, ◌≤◌, Bool, true, false, ◌==◌, eqb, eq-eqb, Option, Some, None, Ok, refl, sym, ap, ◌∙◌, arith}
use Rattle.std.specs.Option.{is_none, is_some}
use Rattle.std.proofs.lemmas.Bool.{false_from_ne_true, true≢false}
use Rattle.std.proofs.lemmas.Bool.Decides.{nat_tests}
use Rattle.mt_mounts.specs.declared.mount.Mount.{Mount}
use Rattle.mt_mounts.specs.declared.mount.Place.{Place}
use Rattle.mt_mounts.specs.Forest.{id_of, mount_at, is_root, root_mount}
use Rattle.mt_propagate.specs.World.{WorldView, is_space}
use Rattle.mt_propagate.specs.WellFormed.{IsWellFormed}
use Rattle.mt_propagate.specs.Places.{arranged, new_mounts}
use Rattle.mt_propagate.specs.Copied.{copied}
use Rattle.mt_propagate.proofs.RowLaws.{row-mapped, row-first, row-kept}
use Rattle.mt_propagate.proofs.ListedLaws.{arranged-id, arranged-still, arranged-away}
use Rattle.mt_skel.proofs.ElementLaws.{in_row, row_in, in_found, find_in}
use Rattle.mt_skel.proofs.MiddleLaws.{and_second, and-true}
use Rattle.mt_bind.specs.Spaces.{with_space, without_space}
use Rattle.mt_bind.specs.Pivoting.{pivoted_mount, with_pivot}
use Rattle.mt_bind.specs.Copying.{with_copies}
use Rattle.mt_bind.specs.Attaching.{whole_tree}
use Rattle.mt_bind.proofs.AttachingLaws.{whole_space}
use Rattle.mt_unmount.specs.Sliding.{CanGo, once_gone}
use Rattle.mt_unmount.proofs.LeftTreeLaws.{stays-in}
use Rattle.mt_setattr.specs.Change.{changed_mount, is_chosen, with_change}
use Rattle.mt_book.specs.declared.command.Command.{Command}
use Rattle.mt_book.specs.declared.command.Reply.{Reply}
use Rattle.mt_book.specs.Step.{step, ends_space}
use Rattle.mt_book.proofs.EffectLaws.{effect}

-- a mount of a namespace
pub record Has (n : ℕ) (w : WorldView) : Type 0 where
  pub id : ℕ
  pub mount : Mount
  pub there : mount_at w.forest id ≡ Some mount
  pub space : mount.space ≡ n

-- a mount that keeps its ID and its namespace
still : (n : ℕ) (w v : WorldView) (f : Mount → Mount) → ((m : Mount) → (f m).space ≡ m.space) → ((i : ℕ) (m : Mount) → mount_at w.forest i ≡ Some m → mount_at v.forest i ≡ Some (f m)) → Has n w → Has n v
still n w v f spaces rows h = record { id = h.id; mount = f h.mount; there = rows h.id h.mount h.there; space = spaces h.mount ∙ h.space }

-- a root mount does not go
gone_has : (n : ℕ) (w : WorldView) (goes : ℕ → Bool) → IsWellFormed w → CanGo w goes → Has n w → Has n (once_gone w goes)
gone_has n w goes h can x =
    let r = h.forest.rooted x.id x.mount x.there in
    let stays = false_from_ne_true (goes r.0) (λ out. let p = can.placed r.0 r.1 out r.2 in let bad : None ≡ Some p.0 = sym r.3 ∙ p.1 in cc) in
    record { id = r.0; mount = _; there = stays-in w h goes r.0 r.1 r.2 stays; space = r.4 ∙ x.space }

-- the mounts of other namespaces stay where one is dropped
others_have : (n k : ℕ) (w : WorldView) → IsWellFormed w → (k == n) ≡ false → Has n w → Has n (without_space w k)
unfolding without_space
others_have n k w h other x =
    let space : x.mount.space ≡ n = x.space in
    let off : (x.mount.space == k) ≡ false = grind (arith, nat_tests) in
    record { id = x.id; mount = x.mount; there = row-kept id_of (λ (m : Mount). m.space == k) w.forest h.forest.rising x.id x.mount off x.there; space = x.space }

-- so do those of others where a tree is attached
others_stay : (n tree : ℕ) (w : WorldView) (p : Place) → is_space w tree ≡ true → (tree == n) ≡ false → Has n w → Has n (copied w (whole_tree w tree) p)
unfolding copied
others_stay n tree w p is other x =
    let src = whole_tree w tree in
    record {
      id = x.id;
      mount = arranged w src p x.mount;
      there = row-first id_of _ (new_mounts w src p) x.id _ (row-mapped id_of (arranged w src p) (arranged-id w src p) w.forest x.id x.mount x.there);
      space =
          arranged-away w src p x.mount (λ same. true≢false (sym (eq-eqb tree n (sym (same ∙ whole_space w tree is) ∙ x.space)) ∙ other))
          ∙ x.space;
    }

pub step_has : (n : ℕ) (w : WorldView) (c : Command) (v : WorldView) (r : Reply) → IsWellFormed w → step w c ≡ Ok (v, r) → ends_space n c ≡ false → Has n w → Has n v
unfolding with_space with_copies copied with_pivot with_change
step_has n w c v r g e d h = effect w c v r (Has n) e (λ u l x. record { id = x.id; mount = x.mount; there = x.there; space = x.space }) (record {
  skel = λ t made. still n w _ (λ m. m) (λ m. refl) (λ i m at. at) h;
  space = λ f. still n w _ (λ m. m) (λ m. refl) (λ i m at. row-first id_of w.forest _ i m at) h;
  copy = λ k less there. still n w _ (λ m. m) (λ m. refl) (λ i m at. row-first id_of w.forest _ i m at) h;
  end = λ k is. others_have n k w g (ap (ends_space n) (sym is) ∙ d) h;
  copies = λ src p unmoved. still n w (copied w src p) (arranged w src p) (arranged-still w src p unmoved)
      (λ i m at. row-first id_of _ (new_mounts w src p) i _ (row-mapped id_of (arranged w src p) (arranged-id w src p) w.forest i m at)) h;
  pivot = λ i j p. still n w _ (pivoted_mount i j p) (λ m. refl) (row-mapped id_of (pivoted_mount i j p) (λ m. refl) w.forest) h;
  gone = λ goes can. gone_has n w goes g (can g) h;
  change = λ change i. still n w _ (changed_mount change (is_chosen w change i)) (λ m. refl) (row-mapped id_of (changed_mount change (is_chosen w change i)) (λ m. refl) w.forest) h;
  tree = λ f. still n w _ (λ m. m) (λ m. refl) (λ i m at. row-first id_of w.forest _ i m at) h;
  opened = λ sources. still n w _ (λ m. m) (λ m. refl) (λ i m at. row-first id_of w.forest _ i m at) h;
  attached = λ tree k path is there apart p on. others_stay n tree w p there (ap (ends_space n) (sym is) ∙ d) h;
})

-- a namespace is there where it has a mount
pub space_has : (n : ℕ) (w : WorldView) → IsWellFormed w → is_space w n ≡ true → Has n w
space_has n w g is = by (root_mount w.forest n) refl is
  where
    by : (o : Option Mount) → root_mount w.forest n ≡ o → is_some o ≡ true → Has n w
    by None e s = absurd (cc)
    by (Some m) e s =
        let f = find_in (is_root n) w.forest m e in
        let space : eqb m.space n ≡ true = and_second (is_none m.place) (m.space == n) f.1 in
        record { id = m.id; mount = m; there = in_row id_of w.forest m g.forest.rising f.0; space = grind (arith, nat_tests) }

pub has_space : (n : ℕ) (w : WorldView) → IsWellFormed w → Has n w → is_space w n ≡ true
has_space n w g h =
    let r = g.forest.rooted h.id h.mount h.there in
    let root : Mount = r.1 in
    let space : root.space ≡ n = r.4 ∙ h.space in
    let on : (root.space == n) ≡ true = grind (arith, nat_tests) in
    let f = in_found (is_root n) w.forest root (row_in id_of r.0 w.forest root r.2) (and-true (is_none root.place) (root.space == n) (ap is_none r.3) on) in
    ap is_some f.1

-- its number is one of those that were given out
pub has_numbered : (n : ℕ) (w : WorldView) → IsWellFormed w → Has n w → (1 ≤ n) × (n < w.next_space)
has_numbered n w g h = let b = g.below h.id h.mount h.there in (omega (arith, b.2, h.space), omega (arith, b.3, h.space))

-- and where its number was not given out, it is not there
pub out_nowhere : (w : WorldView) (n : ℕ) → IsWellFormed w → (n ≡ 0) ⊎ (w.next_space ≤ n) → is_space w n ≡ false
out_nowhere w n g out = false_from_ne_true (is_space w n) (λ is.
    let low = has_numbered n w g (space_has n w g is) in
    elim out [ inl zero_is ↦ absurd (omega (arith, low.0, zero_is)) | inr late ↦ absurd (omega (arith, low.1, late)) ])
