-- A well-formed world stays so where a detached tree is opened, or made of a filesystem.
use Rattle.std.proofs.Common.{◌≡◌, ℕ, ◌<◌, ◌==◌, ltb, eqb-true, eq-eqb, Bool, true, false, List, [], ◌∷◌, ◌++◌, length, Some, Ok, refl, ap, subst, ◌∙◌, inl, inr, arith}
use Rattle.std.specs.Prelude.{is_some, None}
use Rattle.std.specs.List.{list_all}
use Rattle.std.specs.Option.{option_map}
use Rattle.std.proofs.lemmas.Bool.Decides.{nat_tests}
use Rattle.mt_skel.specs.Keyed.{among}
use Rattle.mt_skel.specs.Skeleton.{root_of}
use Rattle.mt_skel.proofs.ElementLaws.{in_any, any_in, in_append}
use Rattle.mt_mounts.specs.declared.mount.Mount.{Mount}
use Rattle.mt_mounts.specs.Forest.{id_of, mount_at, root_mount}
use Rattle.mt_propagate.specs.World.{WorldView, with_tree}
use Rattle.mt_propagate.specs.WellFormed.{IsWellFormed}
use Rattle.mt_propagate.proofs.ListedLaws.{climbs-append}
use Rattle.mt_propagate.proofs.RowLaws.{in_all, row-second}
use Rattle.mt_propagate.proofs.DetachedTreeLaws.{tree_low, root_there}
use Rattle.mt_propagate.proofs.WalkLaws.{number_free}
use Rattle.mt_bind.specs.Spaces.{with_space}
use Rattle.mt_bind.specs.Copying.{with_copies}
use Rattle.mt_bind.specs.Opening.{opened_sources, with_opened, tree_opened, tree_made}
use Rattle.mt_bind.proofs.SourceCopyLaws.{AreSources, AreShown, number, place, copy, copy-in, grown}
use Rattle.mt_bind.proofs.CopyLaws.{copies-kept}
use Rattle.mt_bind.proofs.AcceptedLaws.{path_end, fs_of, tree_made_accepted, opened_accepted}
use Rattle.mt_bind.proofs.SpaceLaws.{new_root, space-kept}
use Rattle.mt_bind.proofs.OpenedSourceLaws.{opened-sources, opened-root, opened-shown}

-- one of the namespaces of a well-formed world comes to be a tree, with a number above those of all others
module _ (w : WorldView) (h : IsWellFormed w) (n : ℕ) (above : (k : ℕ) → among w.trees k ≡ true → k < n) (there : is_some (root_mount w.forest n) ≡ true) where
  all_low : list_all (λ k. ltb k n) w.trees ≡ true
  all_low = in_all (λ k. ltb k n) w.trees (λ k e. let low = above k (any_in (λ j. j == k) k w.trees e (eq-eqb k k refl)) in grind (arith, nat_tests))

  each_there : (k : ℕ) → among (w.trees ++ n ∷ []) k ≡ true → is_some (root_mount w.forest k) ≡ true
  each_there k e =
      let x = in_any (λ j. j == k) (w.trees ++ n ∷ []) e in
      elim (in_append x.0 w.trees (n ∷ []) x.1) [
        | inl old ↦ h.trees.there k (any_in (λ j. j == k) x.0 w.trees old x.2)
        | inr new ↦ elim new [
          | inl is ↦ let same : n ≡ k = is ∙ eqb-true x.0 k x.2 in subst (λ k. is_some (root_mount w.forest k) ≡ true) same there
          | inr none ↦ absurd none
        ]
      ]

  pub treed-kept : IsWellFormed (with_tree w n)
  treed-kept = record {
    forest = h.forest;
    peering = h.peering;
    same_mounts = h.same_mounts;
    from_one = h.from_one;
    below = h.below;
    group_fs = h.group_fs;
    master_fs = h.master_fs;
    trees = record { rising = climbs-append n 1 w.trees h.trees.rising all_low; there = each_there };
  }

-- a new namespace of a filesystem does, if the root directory of that is there
pub tree_made_kept : (w : WorldView) (fs : ℕ) → IsWellFormed w → root_of w.skel fs < length w.skel.directories → IsWellFormed (with_tree (with_space w fs) w.next_space)
unfolding with_space
tree_made_kept w fs h there =
    let m = new_root w fs in
    treed-kept (with_space w fs) (space-kept w fs h there) w.next_space (tree_low w h)
    (root_there (w.forest ++ m ∷ []) w.next_space w.next_mount m (row-second id_of w.forest (m ∷ []) w.next_mount m (number_free w h) (grind (arith, nat_tests))) refl refl)

pub tree_made_keeps : (w : WorldView) (name : List ℕ) (v : WorldView) (i : ℕ) → IsWellFormed w → root_of w.skel (fs_of w name) < length w.skel.directories → tree_made w name ≡ Ok (v, i) → IsWellFormed v
tree_made_keeps w name v i h there e = subst IsWellFormed (tree_made_accepted w name v i e).world (tree_made_kept w (fs_of w name) h there)

-- and copies of mounts do, one of which stands nowhere
pub opened_kept : (w : WorldView) (h : IsWellFormed w) (ms : List Mount) (a : AreSources w ms) (s : AreShown w ms) → (r : Mount) × (mount_at ms r.id ≡ Some r) × (r.place ≡ None) → IsWellFormed (with_opened w ms)
unfolding with_copies
opened_kept w h ms a s r =
    treed-kept (with_copies w ms false) (copies-kept w h ms a s false) w.next_space (tree_low w h)
    (root_there (grown w h ms a) w.next_space (number w h ms a r.0.id) (copy w h ms a r.0) (copy-in w h ms a r.0.id r.0 r.1) (ap (option_map (place w h ms a)) r.2) refl)

pub opened_keeps : (w : WorldView) (n : ℕ) (path : List (List ℕ)) (recursive : Bool) (v : WorldView) (i : ℕ) → IsWellFormed w → tree_opened w n path recursive ≡ Ok (v, i) → IsWellFormed v
opened_keeps w n path recursive v i h e =
    let a = opened_accepted w n path recursive v i e in
    let p = path_end w n path in
    subst IsWellFormed a.world
    (opened_kept w h (opened_sources w recursive p) (opened-sources w n path recursive p h a.ended) (opened-shown w n path recursive p h a.ended) (opened-root w n path recursive p h a.ended))

-- the new namespace has a mount, its root mount
pub opened_root : (w : WorldView) (n : ℕ) (path : List (List ℕ)) (recursive : Bool) (v : WorldView) (i : ℕ) → IsWellFormed w → tree_opened w n path recursive ≡ Ok (v, i)
    → (j : ℕ) × (m : Mount) × (mount_at v.forest j ≡ Some m) × (m.space ≡ w.next_space)
unfolding with_copies
opened_root w n path recursive v i h e =
    let a = opened_accepted w n path recursive v i e in
    let ms = opened_sources w recursive (path_end w n path) in
    let s = opened-sources w n path recursive (path_end w n path) h a.ended in
    let r = opened-root w n path recursive (path_end w n path) h a.ended in
    subst (λ (v : WorldView). (j : ℕ) × (m : Mount) × (mount_at v.forest j ≡ Some m) × (m.space ≡ w.next_space)) a.world (number w h ms s r.0.id, copy w h ms s r.0, copy-in w h ms s r.0.id r.0 r.1, refl)
