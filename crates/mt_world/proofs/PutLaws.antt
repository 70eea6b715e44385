-- What is so of a world in which directories were made for a row, and of the mount of that row.
use Rattle.std.proofs.Common.{◌≡◌, ◌<◌, ◌≤◌, true, Option, None, refl, sym, ap, subst, ◌∙◌, arith}
use Rattle.std.specs.Prelude.{IsTrue}
use Rattle.std.proofs.lemmas.Bool.Decides.{nat_tests}
use Rattle.std.proofs.lemmas.Option.{slice_get_within}
use Rattle.mt_skel.specs.Skeleton.{Skeleton, IsSkeleton}
use Rattle.mt_mounts.specs.declared.mount.Mount.{Mount}
use Rattle.mt_propagate.specs.World.{WorldView}
use Rattle.mt_propagate.proofs.GrownLaws.{grown-kept}
use Rattle.mt_world.specs.declared.row.TableRow.{TableRow}
use Rattle.mt_world.specs.Fitting.{why_unfit}
use Rattle.mt_world.specs.Leaves.{IsSound, IsGiven, HasMore, IsGrown, HasSameNumbers, with_leaf}
use Rattle.mt_world.specs.Places.{IsMountOf, IsPut, HasSameMounts}
use Rattle.mt_world.specs.Rows.{is_numbered}
use Rattle.mt_world.proofs.FitLaws.{fits}
use Rattle.mt_world.proofs.LeafLaws.{leaf-grown}

-- the world with these directories
abbrev pub with_skel : WorldView → Skeleton → WorldView
with_skel w t = record w { skel = t }

pub sound_grown : (w : WorldView) (t : Skeleton) → IsSound w → IsSkeleton t → HasMore w.skel t → IsSound (with_skel w t)
sound_grown w t s is g = record { well_formed = grown-kept w t g.more g.directories s.well_formed; skel = is }

pub skel_grown : (w : WorldView) (t : Skeleton) → HasMore w.skel t → IsGrown w (with_skel w t)
skel_grown w t g = record { skel = g; mounts = λ i m e. e; count = omega arith; spaces = omega arith }

pub skel_numbers : (w : WorldView) (t : Skeleton) → HasSameNumbers w (with_skel w t)
skel_numbers w t = record { next_mount = refl; next_space = refl }

pub skel_mounts : (w : WorldView) (t : Skeleton) → HasSameMounts w (with_skel w t)
skel_mounts w t = record { forest = refl; peering = refl }

positive : (r : TableRow) → is_numbered r ≡ true → (1 ≤ r.id) × (1 ≤ r.space)
positive r e = (grind (arith, nat_tests), grind (arith, nat_tests))

-- the mount of a row has a number, a namespace and a directory that there are
pub given_of : (w : WorldView) (t : Skeleton) (row : TableRow) (above : Option TableRow) (m : Mount) → IsMountOf t row above m → (IsTrue (is_numbered row) → (row.id < w.next_mount) × (row.space < w.next_space)) → IsGiven (with_skel w t) m
given_of w t row above m o numbers =
    let low = positive row o.numbered in
    let high = numbers o.numbered in
    record {
      id = (omega (arith, low.0, o.id), omega (arith, high.0, o.id));
      space = (omega (arith, low.1, o.space), omega (arith, high.1, o.space));
      root = slice_get_within t.directories m.root (record { fs = o.root.fs; path = row.root }) o.root.there;
    }

-- and where it was added, the world has grown
module _ (w v : WorldView) (t : Skeleton) (m : Mount) (g : HasMore w.skel t) (fit : why_unfit (with_skel w t) m ≡ None) (made : v ≡ with_leaf (with_skel w t) m) where
  pub put_grown : IsGrown w v
  put_grown = subst (IsGrown w) (sym made) (leaf-grown w t m g (fits (with_skel w t) m fit).absent)

  pub put_numbers : HasSameNumbers w v
  put_numbers = subst (HasSameNumbers w) (sym made) (record { next_mount = refl; next_space = refl })

  pub put_skel : v.skel ≡ t
  put_skel = ap (λ u. u.skel) made

  pub put_made : (row : TableRow) (above : Option TableRow) → IsMountOf t row above m → IsPut w v row above
  put_made row above o = record {
    mount = m;
    of = subst (λ s. IsMountOf s row above m) (sym put_skel) o;
    fits = subst (λ s. why_unfit (with_skel w s) m ≡ None) (sym put_skel) fit;
    world = made ∙ ap (λ s. with_leaf (with_skel w s) m) (sym put_skel);
  }
