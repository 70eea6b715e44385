-- Where mounts go, a well-formed world stays so, a contained family of namespaces stays contained, and where all of them are in it
-- nothing changes outside. So it is of each command that takes mounts away.
use Rattle.std.proofs.Common.{◌≡◌, ℕ, ◌<◌, ◌≤◌, Bool, not, map, length, Some, refl, sym, ap, subst, ◌∙◌, true, false, eqb-true, Option, None}
use Rattle.std.specs.List.{filter}
use Rattle.std.specs.Option.{option_map}
use Rattle.std.proofs.lemmas.Bool.{false_from_ne_true, true≢false}
use Rattle.mt_skel.specs.Keyed.{without}
use Rattle.mt_skel.specs.Skeleton.{directory}
use Rattle.mt_mounts.specs.declared.mount.Mount.{Mount}
use Rattle.mt_mounts.specs.Forest.{id_of, mount_at, in_space}
use Rattle.mt_mounts.specs.declared.mount.Place.{Place}
use Rattle.mt_peers.specs.declared.state.State.{State}
use Rattle.mt_peers.specs.Peers.{mount_of, state_at}
use Rattle.mt_peers.specs.Loss.{left}
use Rattle.mt_peers.proofs.LeavingLaws.{left-IsPeering}
use Rattle.mt_peers.proofs.AlikeLaws.{IsAlike, left-IsAlike, same-IsAlike}
use Rattle.mt_propagate.specs.World.{WorldView, space_of}
use Rattle.mt_propagate.specs.WellFormed.{IsWellFormed, fs_at}
use Rattle.mt_propagate.specs.Contained.{IsContained, IsSameOutside}
use Rattle.mt_propagate.proofs.CopyRowLaws.{root_is, space_is}
use Rattle.mt_skel.proofs.MiddleLaws.{each_still}
use Rattle.mt_propagate.proofs.RowLaws.{keys-map, keys-filter, found-each, part-kept}
use Rattle.mt_propagate.proofs.ShownLaws.{shown-alike, groups-show, masters-show, left-mounts, state-mount}
use Rattle.mt_propagate.proofs.DetachedTreeLaws.{trees_stay}
use Rattle.mt_propagate.proofs.ContainedLaws.{left-contained, left-state}
use Rattle.mt_unmount.specs.Sliding.{CanGo, once_gone, slid}
use Rattle.mt_unmount.proofs.LeftTreeLaws.{leaves, moved, left_mounts, Stays, left-forest, row-of, stays-in, root-stays}
use Rattle.mt_unmount.proofs.StandingLaws.{under-space}
use Rattle.mt_unmount.proofs.SlideLaws.{slid-here}

module _ (w : WorldView) (h : IsWellFormed w) (goes : ℕ → Bool) where
  -- the mounts that are left and the states that are left have the same IDs
  same_ids : map id_of (left_mounts w goes) ≡ map mount_of (left goes w.peering).peers
  same_ids =
      keys-map id_of (moved w goes) (λ m. refl) (without (leaves w goes) w.forest)
      ∙ keys-filter id_of (λ j. not (goes j)) w.forest ∙ ap (filter (λ j. not (goes j))) h.same_mounts ∙ sym (left-mounts goes w.peering)

  -- a state that is left is of a mount that stays, which shows what it showed
  pub state-stays : (k : ℕ) (s : State) → state_at (left goes w.peering).peers k ≡ Some s → (y : Mount) × (mount_at (left_mounts w goes) k ≡ Some y) × Stays w h goes k y
  state-stays k s e = let m = state-mount (left_mounts w goes) (left goes w.peering).peers k s same_ids e in (m.0, m.1, row-of w h goes k m.0 m.1)

  same_fs : (k : ℕ) (s : State) → state_at (left goes w.peering).peers k ≡ Some s → fs_at (once_gone w goes) k ≡ fs_at w k
  same_fs k s e =
      let y = state-stays k s e in
      ap (λ d. (directory w.skel d).fs) (root_is (once_gone w goes) k y.0 y.1 ∙ ap (λ (m : Mount). m.root) y.2.made ∙ sym (root_is w k y.2.mount y.2.there))

  alike : IsAlike (fs_at (once_gone w goes)) (once_gone w goes).peering.peers
  alike =
      same-IsAlike (fs_at w) (fs_at (once_gone w goes)) (left goes w.peering).peers same_fs
      (left-IsAlike (fs_at w) w.peering h.peering (shown-alike w h) goes)

  -- a world stays well-formed where mounts go that can
  pub gone-kept : CanGo w goes → IsWellFormed (once_gone w goes)
  gone-kept can = record {
    forest = left-forest w h goes can;
    peering = left-IsPeering w.peering h.peering goes;
    same_mounts = same_ids;
    from_one = h.from_one;
    below = λ k y e.
        let s = row-of w h goes k y e in
        subst (λ (m : Mount). (1 ≤ k) × (k < w.next_mount) × (1 ≤ m.space) × (m.space < w.next_space) × (m.root < length w.skel.directories)) (sym s.made) (h.below k s.mount s.there);
    group_fs = groups-show (once_gone w goes) alike;
    master_fs = masters-show (once_gone w goes) alike;
    trees = trees_stay w.skel w.forest (left_mounts w goes) h.forest.rising (left-forest w h goes can)
        (λ i m e root. (i, moved w goes m, stays-in w h goes i m e (root-stays w h goes can i m e root), refl)) w.trees h.trees;
  }

module _ (w : WorldView) (h : IsWellFormed w) (goes : ℕ → Bool) (family : ℕ → Bool) (c : IsContained family w) where
  -- a contained family stays so, wherever the mounts are
  gone-contained : IsContained family (once_gone w goes)
  gone-contained =
      left-contained family w (once_gone w goes) h c goes refl (λ k s e.
      let y = state-stays w h goes k s e in
      space_is (once_gone w goes) k y.0 y.1 ∙ ap (λ (m : Mount). m.space) y.2.made ∙ sym (space_is w k y.2.mount y.2.there)) (left-IsPeering w.peering h.peering goes).rising

  module _ (within : (j : ℕ) → goes j ≡ true → family (space_of w j) ≡ true) where
    -- a mount outside stays where it is
    stays : (j : ℕ) → family (space_of w j) ≡ false → goes j ≡ false
    stays j off = false_from_ne_true (goes j) (λ is. true≢false (sym (within j is) ∙ off))

    unmoved : (m : Mount) → mount_at w.forest m.id ≡ Some m → family m.space ≡ false → moved w goes m ≡ m
    unmoved m e off = ap (λ (o : Option Place). let y : Mount = record m { place = o } in y) (go m.place refl)
      where
        go : (o : Option Place) → m.place ≡ o → option_map (slid w goes) o ≡ o
        go None is = refl
        go (Some p) is =
            let on = stays p.mount (ap family (under-space w h m.id m p e is ∙ space_is w m.id m e) ∙ off) in
            ap (λ q. Some q) (slid-here w h goes p on)

    same-mounts : (k : ℕ) → family k ≡ false → filter (in_space k) (left_mounts w goes) ≡ filter (in_space k) w.forest
    same-mounts k off =
        part-kept (in_space k) (λ m. not (leaves w goes m)) (moved w goes) w.forest
        (each_still (λ m. mount_at w.forest m.id ≡ Some m) (λ m. (in_space k (moved w goes m) ≡ in_space k m) × (in_space k m ≡ true → (not (leaves w goes m) ≡ true) × (moved w goes m ≡ m)))
        (λ m e. (
          refl,
          λ is.
              let apart : family m.space ≡ false = ap family (eqb-true m.space k is) ∙ off in
              (ap not (stays m.id (ap family (space_is w m.id m e) ∙ apart)), unmoved m e apart),
        )) w.forest (found-each id_of w.forest h.forest.rising))

    -- nothing changes outside
    gone-outside : IsSameOutside family w (once_gone w goes)
    gone-outside = record {
      skel = refl;
      mounts = same-mounts;
      states = left-state family w h c goes within;
    }

-- a command in a namespace takes mounts away that can go, and that are in each contained family that the namespace is of
pub record Takes (w : WorldView) (n : ℕ) (v : WorldView) : Type 0 where
  pub goes : ℕ → Bool
  pub can : CanGo w goes
  pub world : once_gone w goes ≡ v
  pub within : (family : ℕ → Bool) → IsContained family w → family n ≡ true → (j : ℕ) → goes j ≡ true → family (space_of w j) ≡ true

module _ (w : WorldView) (h : IsWellFormed w) (n : ℕ) (v : WorldView) (t : Takes w n v) where
  -- the world stays well-formed and a contained family contained, and outside one that the command's own is of,
  -- nothing changes
  pub takes-kept : IsWellFormed v
  takes-kept = subst IsWellFormed t.world (gone-kept w h t.goes t.can)

  pub takes-contained : (family : ℕ → Bool) → IsContained family w → IsContained family v
  takes-contained family c = subst (IsContained family) t.world (gone-contained w h t.goes family c)

  pub takes-outside : (family : ℕ → Bool) → IsContained family w → family n ≡ true → IsSameOutside family w v
  takes-outside family c here = subst (IsSameOutside family w) t.world (gone-outside w h t.goes family c (t.within family c here))
