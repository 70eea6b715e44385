-- Where nothing changes outside a family of namespaces, the tables of all others stay.
use Rattle.std.proofs.Common.{◌≡◌, ℕ, Bool, false, eqb-true, eq-eqb, map, Some, refl, ap, ◌∙◌}
use Rattle.mt_skel.specs.Skeleton.{directory, filesystem}
use Rattle.mt_skel.proofs.ElementLaws.{in_filter, in_row}
use Rattle.mt_mounts.specs.declared.mount.Mount.{Mount}
use Rattle.mt_mounts.specs.Forest.{id_of, mount_at, in_space, mounts_in}
use Rattle.mt_propagate.specs.World.{WorldView}
use Rattle.mt_propagate.specs.WellFormed.{IsWellFormed}
use Rattle.mt_propagate.specs.Contained.{IsContained, IsSameOutside}
use Rattle.mt_propagate.proofs.RowLaws.{picked-row, row-picked, each_in}
use Rattle.mt_propagate.proofs.RelocationLaws.{map-each}
use Rattle.mt_propagate.proofs.OutsideTagLaws.{tag-outside}
use Rattle.mt_info.specs.Table.{row_of, table_of}
use Rattle.mt_info.proofs.RowPaths.{row_alike}
use Rattle.mt_info.proofs.PointLaws.{parent_there}
use Rattle.mt_info.proofs.AlikeLaws.{same_point}

module _ (family : ℕ → Bool) (w v : WorldView) (h : IsWellFormed w) (g : IsWellFormed v) (c : IsContained family w) (o : IsSameOutside family w v) (k : ℕ) (off : family k ≡ false) where
  -- a mount of the namespace, in both worlds
  abbrev Here : ℕ → Type 0
  Here i = (m : Mount) × (mount_at w.forest i ≡ Some m) × (mount_at v.forest i ≡ Some m) × (m.space ≡ k)

  here : (i : ℕ) (m : Mount) → mount_at w.forest i ≡ Some m → m.space ≡ k → Here i
  here i m e same =
      (m, e, (picked-row id_of (in_space k) v.forest g.forest.rising i m (ap (λ ms. mount_at ms i) (o.mounts k off) ∙ row-picked id_of (in_space k) w.forest h.forest.rising i m (eq-eqb m.space k same) e)).0, same)

  same_row : (m : Mount) → mount_at w.forest m.id ≡ Some m → m.space ≡ k → row_of v m ≡ row_of w m
  same_row m e space =
      let out : family m.space ≡ false = ap family space ∙ off in
      row_alike v w m (λ i. directory (o.skel i) m.root) (λ i. filesystem (o.skel i) (directory (o.skel i) m.root).fs)
      (same_point v w g h o.skel Here (λ i x. (x.0, x.0, x.2, x.1, refl, refl))
      (λ i j x up. let q = parent_there w h i j x.0 x.1 up in here j q.0 q.1 (q.2 ∙ x.3)) m.id (here m.id m e space))
      (o.states m.id m e out) (tag-outside family w v h g c o m.id m e out)

  pub same_table : table_of v k ≡ table_of w k
  same_table =
      ap (map (row_of v)) (o.mounts k off)
      ∙ map-each (row_of v) (row_of w) (mounts_in w.forest k) (each_in _ _ (λ m at.
      let x = in_filter (in_space k) m w.forest at in
      same_row m (in_row id_of w.forest m h.forest.rising x.0) (eqb-true m.space k x.1)))
