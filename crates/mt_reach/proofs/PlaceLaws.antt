-- A path ends at the root of a mount, or at a root place, where the rows tell so.
use Rattle.std.proofs.Common.{◌≡◌, ◌↔◌, ℕ, Bool, true, false, cond, not, ◌&&◌, ◌==◌, eqb-true, eq-eqb, List, [], ◌∷◌, Option, Some, None, refl, sym, ap, subst, ◌∙◌, arith}
use Rattle.std.specs.Prelude.{IsTrue, is_none, unwrap_or, length, ◌<◌}
use Rattle.std.specs.Option.{option_and_then, option_map}
use Rattle.std.proofs.lemmas.Bool.Decides.{nat_tests}
use Rattle.mt_skel.specs.Skeleton.{IsSkeleton, Directory, directory, directory_eq, is_directory}
use Rattle.mt_skel.proofs.SkeletonLaws.{directory_at, directory_eq-Decides, holds-Decides}
use Rattle.mt_mounts.specs.declared.mount.Mount.{Mount}
use Rattle.mt_mounts.specs.declared.mount.Place.{Place}
use Rattle.mt_mounts.specs.Forest.{mount_at, is_below}
use Rattle.mt_mounts.proofs.KeptLaws.{mount_fits}
use Rattle.mt_propagate.specs.World.{WorldView, root_dir}
use Rattle.mt_propagate.specs.WellFormed.{IsWellFormed}
use Rattle.mt_propagate.specs.Named.{is_mount_root, is_root_place, mount_or_unknown, unknown}
use Rattle.mt_propagate.proofs.WalkLaws.{walked}
use Rattle.mt_reach.specs.declared.row.SeenRow.{SeenRow}
use Rattle.mt_reach.specs.Rows.{is_same_directory, seen_at}
use Rattle.mt_reach.specs.Tree.{seen_parent_row, in_tree}
use Rattle.mt_reach.specs.Seen.{seen_mount, seen_rows, seen_directory}
use Rattle.mt_reach.specs.Refusals.{IsWitness, off_root, at_root_place, left_outside}
use Rattle.mt_reach.specs.Laws.{PathEndsAt}
use Rattle.mt_reach.proofs.ParentLaws.{seen_found, tree_seen, row_of_root, row_of_parent}

module _ (w : WorldView) (s : IsSkeleton w.skel) where
  -- two directories that are there are one where their rows tell so
  one_directory : (a b : ℕ) → a < length w.skel.directories → b < length w.skel.directories → is_same_directory (seen_directory w a) (seen_directory w b) ≡ (b == a)
  one_directory a b la lb = told ∙ go (directory_eq (directory w.skel a) (directory w.skel b)) refl (b == a) refl
    where
      told : is_same_directory (seen_directory w a) (seen_directory w b) ≡ directory_eq (directory w.skel a) (directory w.skel b)
      told = grind (arith, nat_tests)

      go : (x : Bool) → directory_eq (directory w.skel a) (directory w.skel b) ≡ x → (y : Bool) → (b == a) ≡ y → x ≡ y
      go true e true f = refl
      go false e false f = refl
      go true e false f =
          let same = (directory_eq-Decides (directory w.skel a) (directory w.skel b)).0 e in
          let one : a ≡ b = s.once a b (directory w.skel a) (directory_at w.skel a la) (directory_at w.skel b lb ∙ ap (λ (d : Directory). Some d) (sym same)) in
          sym (eq-eqb b a (sym one)) ∙ f
      go false e true f =
          let one : b ≡ a = eqb-true b a f in
          sym e ∙ (directory_eq-Decides (directory w.skel a) (directory w.skel b)).1 (ap (directory w.skel) (sym one))

  module _ (h : IsWellFormed w) (p : Place) (l : PathEndsAt w p) where
    stands : (m : Mount) × (mount_at w.forest p.mount ≡ Some m) × (p.dir < length w.skel.directories) × (m.root < length w.skel.directories)
    stands =
        let r = (walked w l.0 h l.1 p l.2).0 in
        let a = (holds-Decides w.skel r.0.root p.dir).0 r.3 in
        (r.0, r.1, a.there, (h.below p.mount r.0 r.1).4)

    abbrev m : Mount
    m = stands.0

    found : seen_at (seen_rows w) p.mount ≡ Some (seen_mount w m)
    found = seen_found w p.mount m stands.1

    root : root_dir w p.mount ≡ m.root
    root = ap (λ o. unwrap_or (option_map (λ (x : Mount). x.root) o) 0) stands.1

    same : is_same_directory (seen_mount w m).root (seen_directory w p.dir) ≡ (p.dir == root_dir w p.mount)
    same = one_directory m.root p.dir stands.3 stands.2 ∙ ap (λ k. p.dir == k) (sym root)

    none_if : (b : Bool) → (cond b None (Some p.mount) ≡ None) ↔ (b ≡ true)
    none_if true = (λ e. refl, λ e. refl)
    none_if false = (λ e. absurd (cc), λ e. absurd (cc))

    some_if : (b : Bool) → (cond b (Some p.mount) None ≡ None) ↔ (b ≡ false)
    some_if true = (λ e. absurd (cc), λ e. absurd (cc))
    some_if false = (λ e. refl, λ e. refl)

    pub off_root_witnessed : (off_root (seen_rows w) p.mount (seen_directory w p.dir) ≡ None) ↔ (is_mount_root w p ≡ true)
    off_root_witnessed =
        let told = ap (option_and_then (λ (r : SeenRow). cond (is_same_directory r.root (seen_directory w p.dir)) None (Some p.mount))) found
        ∙ ap (λ b. cond b None (Some p.mount)) same in
        subst (λ o. (o ≡ None) ↔ (is_mount_root w p ≡ true)) (sym told) (none_if (p.dir == root_dir w p.mount))

    -- a root mount tells no parent, and any other one does
    parentless : is_none (seen_parent_row (seen_rows w) (seen_mount w m)) ≡ is_none m.place
    parentless = go m.place refl
      where
        row : mount_at w.forest m.id ≡ Some m
        row = ap (mount_at w.forest) (mount_fits w.forest p.mount m stands.1) ∙ stands.1

        go : (o : Option Place) → m.place ≡ o → is_none (seen_parent_row (seen_rows w) (seen_mount w m)) ≡ is_none o
        go None at = ap is_none (row_of_root w h m row at)
        go (Some q) at = let up = h.forest.placed m.id m q row at in ap is_none (row_of_parent w h m up.0 q row at up.1 up.2)

    pub root_place_witnessed : (at_root_place (seen_rows w) p.mount (seen_directory w p.dir) ≡ None) ↔ (is_root_place w p ≡ false)
    root_place_witnessed =
        let known : is_none (mount_or_unknown w p.mount).place ≡ is_none m.place = ap (λ o. is_none (unwrap_or o unknown).place) stands.1 in
        let told = ap (option_and_then (λ (r : SeenRow). cond (is_none (seen_parent_row (seen_rows w) r) && is_same_directory r.root (seen_directory w p.dir)) (Some p.mount) None)) found
        ∙ ap (λ b. cond (b && is_same_directory (seen_mount w m).root (seen_directory w p.dir)) (Some p.mount) None) (parentless ∙ sym known)
        ∙ ap (λ b. cond (is_none (mount_or_unknown w p.mount).place && b) (Some p.mount) None) same in
        subst (λ o. (o ≡ None) ↔ (is_root_place w p ≡ false)) (sym told) (some_if (is_root_place w p))

-- the mounts of a pivot that leaves the old root outside
unless : (b : Bool) (i : ℕ) (ids : List ℕ) → IsWitness (cond b [] (i ∷ ids)) (not b)
unless true i ids = (λ e. refl, λ e. refl)
unless false i ids = (λ e. absurd (cc), λ e. absurd (cc))

pub outside_witnessed : (w : WorldView) → IsWellFormed w → (new dest : ℕ) → IsWitness (left_outside (seen_rows w) new dest) (not (is_below w.forest new dest))
outside_witnessed w h new dest = subst (λ b. IsWitness (left_outside (seen_rows w) new dest) (not b)) (tree_seen w h new dest) (unless (in_tree (seen_rows w) new dest) dest (new ∷ []))
