-- The mounts of a namespace may be copied, and a well-formed world stays so.
use Rattle.std.proofs.Common.{◌≡◌, ℕ, ◌<◌, Bool, ◌==◌, eqb-true, eq-eqb, Some, sym, ap, subst, ◌∙◌}
use Rattle.mt_skel.specs.Skeleton.{directory}
use Rattle.mt_skel.proofs.KeyedLaws.{rises-filter, row_at-key}
use Rattle.mt_mounts.specs.declared.mount.Mount.{Mount}
use Rattle.mt_mounts.specs.Forest.{id_of, mount_at}
use Rattle.mt_mounts.proofs.CycleLaws.{no_cycle, rank_of, rank_falls}
use Rattle.mt_propagate.specs.World.{WorldView}
use Rattle.mt_propagate.specs.WellFormed.{IsWellFormed}
use Rattle.mt_propagate.proofs.CopyRowLaws.{root_is}
use Rattle.mt_propagate.proofs.RowLaws.{picked-row, row-picked}
use Rattle.mt_propagate.proofs.TreeLaws.{parent-from, parent-is}
use Rattle.mt_bind.specs.Spaces.{originals, with_copy}
use Rattle.mt_bind.proofs.SourceCopyLaws.{AreSources, AreShown}
use Rattle.mt_bind.proofs.CopyLaws.{copies-kept}

module _ (w : WorldView) (h : IsWellFormed w) (n : ℕ) where
  -- the mounts of the namespace
  pub original : (i : ℕ) (x : Mount) → mount_at w.forest i ≡ Some x → x.space ≡ n → mount_at (originals w n) i ≡ Some x
  original i x e same = row-picked id_of (λ m. m.space == n) w.forest h.forest.rising i x (eq-eqb x.space n same) e

  pub was-original : (i : ℕ) (x : Mount) → mount_at (originals w n) i ≡ Some x → (mount_at w.forest i ≡ Some x) × (x.space ≡ n)
  was-original i x e = let p = picked-row id_of (λ m. m.space == n) w.forest h.forest.rising i x e in (p.0, eqb-true x.space n p.1)

  -- they are one tree
  pub originals-are : AreSources w (originals w n)
  originals-are = record {
    rising = rises-filter id_of (λ m. m.space == n) w.forest h.forest.rising;
    rooted = λ i m e.
        let o = was-original i m e in
        let r = h.forest.rooted i m o.0 in
        let own = row_at-key id_of r.0 w.forest r.1 r.2 in
        (r.1, original r.1.id r.1 (ap (mount_at w.forest) own ∙ r.2) (r.4 ∙ o.1), r.3);
    one_root = λ i j m q ei ej pi pj.
        let a = was-original i m ei in
        let b = was-original j q ej in
        h.forest.one_root i j m q a.0 b.0 pi pj (a.1 ∙ sym b.1);
    placed = λ i m p e at.
        let o = was-original i m e in
        let q = h.forest.placed i m p o.0 at in
        (q.0, original p.mount q.0 q.1 (q.2 ∙ o.1), q.3);
    apart = λ i j m q p ei ej pi pj. h.forest.apart i j m q p (was-original i m ei).0 (was-original j q ej).0 pi pj;
    no_cycle = no_cycle (originals w n) (rank_of w.forest) (λ i j e.
        let m = parent-from (originals w n) i j e in
        let o = was-original i m.0 m.2 in
        subst (λ j. rank_of w.forest j < rank_of w.forest i) m.4 (rank_falls w.forest h.forest.no_cycle i m.1.mount (parent-is w.forest i m.0 m.1 o.0 m.3)));
  }

  pub originals-shown : AreShown w (originals w n)
  originals-shown = record {
    shows = λ i m e. let o = was-original i m e in (m, o.0, ap (λ r. (directory w.skel r).fs) (sym (root_is w i m o.0)));
    low = λ i m e. let b = h.below i m (was-original i m e).0 in b.4;
  }

-- a copy of a namespace keeps a world well-formed
pub copy-kept : (w : WorldView) (h : IsWellFormed w) (n : ℕ) (less : Bool) → IsWellFormed (with_copy w n less)
copy-kept w h n less = copies-kept w h (originals w n) (originals-are w h n) (originals-shown w h n) less
