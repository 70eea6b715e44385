-- A well-formed world stays so where mounts are changed.
use Rattle.std.proofs.Common.{◌≡◌, ℕ, ◌<◌, ◌≤◌, map, length, Option, Some, None, refl, sym, ap, subst, ◌∙◌, Result, Ok, Err, OnOk, OnErr}
use Rattle.std.specs.Option.{option_map, option_map_or, unwrap_or}
use Rattle.mt_skel.specs.Skeleton.{directory}
use Rattle.mt_skel.specs.declared.fault.Fault.{Fault}
use Rattle.mt_skel.proofs.KeyedLaws.{row_at-map}
use Rattle.mt_mounts.specs.declared.mount.Mount.{Mount}
use Rattle.mt_mounts.specs.Forest.{id_of, mount_at}
use Rattle.mt_peers.specs.declared.state.Kind.{Kind}
use Rattle.mt_peers.specs.Peers.{Peering, mount_of}
use Rattle.mt_peers.specs.Making.{made}
use Rattle.mt_peers.specs.WellFormed.{IsPeering}
use Rattle.mt_peers.proofs.MakingLaws.{made-IsPeering, made-mounts}
use Rattle.mt_peers.proofs.AlikeLaws.{IsAlike, made-IsAlike, same-IsAlike}
use Rattle.mt_propagate.specs.World.{WorldView, root_dir}
use Rattle.mt_propagate.specs.WellFormed.{IsForest, IsWellFormed, fs_at}
use Rattle.mt_propagate.proofs.RowLaws.{keys-map, mapped-row, row-mapped}
use Rattle.mt_propagate.proofs.TreeLaws.{forest_changed}
use Rattle.mt_propagate.proofs.ShownLaws.{shown-alike, groups-show, masters-show}
use Rattle.mt_propagate.proofs.DetachedTreeLaws.{trees_stay}
use Rattle.mt_setattr.specs.declared.change.Change.{Change}
use Rattle.mt_setattr.specs.Change.{with_change, changed_mount, is_chosen}

module _ (w : WorldView) (h : IsWellFormed w) (c : Change) (i : ℕ) where
  abbrev change : Mount → Mount
  change = changed_mount c (is_chosen w c i)

  -- the mounts are the same ones, and show what they showed
  same_root : (j : ℕ) → root_dir (with_change w c i) j ≡ root_dir w j
  unfolding with_change
  same_root j = ap (λ o. unwrap_or (option_map (λ (m : Mount). m.root) o) 0) (row_at-map id_of change (λ m. refl) j w.forest) ∙ go (mount_at w.forest j)
    where
      go : (o : Option Mount) → unwrap_or (option_map (λ (m : Mount). m.root) (option_map change o)) 0 ≡ unwrap_or (option_map (λ (m : Mount). m.root) o) 0
      go None = refl
      go (Some m) = refl

  same_fs : (j : ℕ) → fs_at (with_change w c i) j ≡ fs_at w j
  unfolding with_change
  same_fs j = ap (λ d. (directory w.skel d).fs) (same_root j)

  abbrev remade : Option Kind → Peering
  remade o = option_map_or (λ k. made k (is_chosen w c i) w.peering) o w.peering

  peered : (o : Option Kind) → IsPeering (remade o) × IsAlike (fs_at w) (remade o).peers × (map mount_of (remade o).peers ≡ map mount_of w.peering.peers)
  peered None = (h.peering, shown-alike w h, refl)
  peered (Some k) = (
    made-IsPeering w.peering h.peering k (is_chosen w c i),
    made-IsAlike (fs_at w) w.peering h.peering (shown-alike w h) k (is_chosen w c i),
    made-mounts w.peering h.peering k (is_chosen w c i),
  )

  alike : IsAlike (fs_at (with_change w c i)) (with_change w c i).peering.peers
  unfolding with_change
  alike = same-IsAlike (fs_at w) (fs_at (with_change w c i)) (remade c.prop).peers (λ j s e. same_fs j) (peered c.prop).1

  changed_forest : IsForest w.skel (map change w.forest)
  changed_forest = forest_changed w.skel w.forest h.forest change (λ m. refl) (λ m. refl) (λ m. refl) (λ m. refl)

  -- a change keeps a world well-formed
  pub change-kept : IsWellFormed (with_change w c i)
  unfolding with_change
  change-kept = record {
    forest = changed_forest;
    peering = (peered c.prop).0;
    same_mounts = keys-map id_of change (λ m. refl) w.forest ∙ h.same_mounts ∙ sym (peered c.prop).2;
    from_one = h.from_one;
    below = λ j m e.
        let x = mapped-row id_of change (λ m. refl) w.forest j m e in
        let b = h.below j x.0 x.1 in (
          b.0,
          b.1,
          subst (λ (m : Mount). 1 ≤ m.space) (sym x.2) b.2,
          subst (λ (m : Mount). m.space < w.next_space) (sym x.2) b.3,
          subst (λ (m : Mount). m.root < length w.skel.directories) (sym x.2) b.4,
        );
    group_fs = groups-show (with_change w c i) alike;
    master_fs = masters-show (with_change w c i) alike;
    trees = trees_stay w.skel w.forest (map change w.forest) h.forest.rising changed_forest (λ j m e root. (j, change m, row-mapped id_of change (λ m. refl) w.forest j m e, refl)) w.trees h.trees;
  }

-- and so does one that was made or refused
pub change-kept-by : {A : Type 0} (r : Result A Fault) (w new : WorldView) (c : Change) (i : ℕ) → OnOk r (new ≡ with_change w c i) → OnErr r (new ≡ w) → IsWellFormed w → IsWellFormed new
change-kept-by (Ok x) w new c i done unchanged h = subst IsWellFormed (sym done) (change-kept w h c i)
change-kept-by (Err f) w new c i done unchanged h = subst IsWellFormed (sym unchanged) h
