-- Mounts that stand alike in two worlds, as all above them do, stand at the same point.
use Rattle.std.proofs.Common.{◌≡◌, ℕ, ◌++◌, length, drop, Option, Some, None, refl, sym, ap, ◌∙◌}
use Rattle.std.specs.Option.{option_map}
use Rattle.mt_skel.specs.Skeleton.{directory}
use Rattle.mt_mounts.specs.declared.mount.Mount.{Mount}
use Rattle.mt_mounts.specs.declared.mount.Place.{Place}
use Rattle.mt_mounts.specs.Forest.{mount_at, parent}
use Rattle.mt_propagate.specs.World.{WorldView}
use Rattle.mt_propagate.specs.WellFormed.{IsWellFormed}
use Rattle.mt_propagate.proofs.TreeLaws.{parent-is}
use Rattle.mt_info.specs.Table.{own_names, mount_point}
use Rattle.mt_info.proofs.TableLaws.{own_names_at, own_names_root}
use Rattle.mt_info.proofs.PointLaws.{from_end, below_parent, below_none, parent_at}

-- a mount is there before and after, at one place and with one root directory
abbrev pub IsAlike : WorldView → WorldView → ℕ → Type 0
IsAlike w v i = (m : Mount) × (n : Mount) × (mount_at w.forest i ≡ Some m) × (mount_at v.forest i ≡ Some n) × (m.place ≡ n.place) × (m.root ≡ n.root)

-- it has the same parent
pub same_parent : (w v : WorldView) (i : ℕ) → IsAlike w v i → parent w.forest i ≡ parent v.forest i
same_parent w v i a = parent_at w i a.0 a.2 ∙ ap (option_map (λ (p : Place). p.mount)) a.4 ∙ sym (parent_at v i a.1 a.3)

module _ (w v : WorldView) (h : IsWellFormed w) (g : IsWellFormed v) (same : w.skel ≡ v.skel) (P : ℕ → Type 0)
    (alike : (i : ℕ) → P i → IsAlike w v i) (up : (i j : ℕ) → P i → parent v.forest i ≡ Some j → P j) where
  -- and adds the same names
  same_names : (i : ℕ) → P i → own_names w i ≡ own_names v i
  same_names i x = by (alike i x).1.place refl
    where
      by : (o : Option Place) → (alike i x).1.place ≡ o → own_names w i ≡ own_names v i
      by None at = let a = alike i x in own_names_root w i a.0 a.2 (a.4 ∙ at) ∙ sym (own_names_root v i a.1 a.3 at)
      by (Some p) at =
          let a = alike i x in
          let b = alike p.mount (up i p.mount x (parent-is v.forest i a.1 p a.3 at)) in
          own_names_at w i a.0 b.0 p a.2 (a.4 ∙ at) b.2
          ∙ (λ k. drop (length (directory (same k) (b.5 k)).path) (directory (same k) p.dir).path)
          ∙ sym (own_names_at v i a.1 b.1 p a.3 at b.3)

  pub same_point : (i : ℕ) → P i → mount_point w i ≡ mount_point v i
  same_point i =
      from_end (parent v.forest) (λ i. P i → mount_point w i ≡ mount_point v i)
      (λ i none x. below_none w i (same_parent w v i (alike i x) ∙ none) ∙ same_names i x ∙ sym (below_none v i none))
      (λ i j some later x.
      below_parent w i j h (same_parent w v i (alike i x) ∙ some) ∙ (λ k. later (up i j x some) k ++ same_names i x k) ∙ sym (below_parent v i j g some))
      (length v.forest) i (g.forest.no_cycle i)
