-- What a bind copies may be the mounts of a detached tree, once its top stands nowhere.
use Rattle.std.proofs.Common.{◌≡◌, ◌≢◌, ℕ, ◌<◌, Bool, cond, eq-eqb, List, map, length, Some, None, Ok, refl, sym, ap, subst, ◌∙◌, inl, inr}
use Rattle.std.proofs.lemmas.Bool.{cases_eq, ne_eqb}
use Rattle.std.proofs.lemmas.Option.{none-some}
use Rattle.mt_skel.specs.Skeleton.{holds, directory}
use Rattle.mt_skel.proofs.KeyedLaws.{rises-map, row_at-key}
use Rattle.mt_mounts.specs.declared.mount.Mount.{Mount}
use Rattle.mt_mounts.specs.declared.mount.Place.{Place}
use Rattle.mt_mounts.specs.Forest.{id_of, mount_at}
use Rattle.mt_mounts.specs.Walk.{walk}
use Rattle.mt_mounts.proofs.CycleLaws.{no_cycle, rank_of, rank_falls}
use Rattle.mt_peers.proofs.MemberLaws.{some-is}
use Rattle.mt_propagate.specs.World.{WorldView, space_of}
use Rattle.mt_propagate.specs.WellFormed.{IsWellFormed, fs_at}
use Rattle.mt_propagate.specs.Sound.{IsTree}
use Rattle.mt_propagate.proofs.ContainedLaws.{below-space}
use Rattle.mt_propagate.proofs.CopyRowLaws.{space_is}
use Rattle.mt_propagate.proofs.WalkLaws.{walked}
use Rattle.mt_propagate.proofs.RowLaws.{mapped-row, row-mapped}
use Rattle.mt_propagate.proofs.TreeLaws.{parent-from, parent-is}
use Rattle.mt_bind.specs.Sources.{source_at}
use Rattle.mt_bind.specs.Opening.{unplaced_top, opened_sources}
use Rattle.mt_bind.proofs.MountLaws.{bound_source, bound_top, bound_shows, bound_below}
use Rattle.mt_bind.proofs.SourceCopyLaws.{AreSources, AreShown}

-- a tree of mounts, the top of which has the ID k
module _ (w : WorldView) (ms : List Mount) (top : Mount) (t : IsTree w.skel ms top) (k : ℕ) (named : top.id ≡ k) where
  abbrev us : List Mount
  us = map (unplaced_top k) ms

  was : (i : ℕ) (u : Mount) → mount_at us i ≡ Some u → (x : Mount) × (mount_at ms i ≡ Some x) × (u ≡ unplaced_top k x)
  was i u e = mapped-row id_of (unplaced_top k) (λ m. refl) ms i u e

  -- the top stands nowhere, and each other one where it stood
  top_place : (x : Mount) → x.id ≡ k → (unplaced_top k x).place ≡ None
  top_place x e = ap (λ b. cond b None x.place) (eq-eqb x.id k e)

  other_place : (x : Mount) → x.id ≢ k → (unplaced_top k x).place ≡ x.place
  other_place x off = ap (λ b. cond b None x.place) (ne_eqb x.id k off)

  -- one that stands somewhere is no top, and stood there
  stood : (i : ℕ) (u : Mount) (p : Place) → mount_at us i ≡ Some u → u.place ≡ Some p → (x : Mount) × (mount_at ms i ≡ Some x) × (x.place ≡ Some p) × (i ≢ k)
  stood i u p e at =
      let x = was i u e in
      let own = row_at-key id_of i ms x.0 x.1 in
      let off : x.0.id ≢ k = λ same. none-some p (sym (top_place x.0 same) ∙ ap (λ (m : Mount). m.place) (sym x.2) ∙ at) in
      (x.0, x.1, sym (other_place x.0 off) ∙ ap (λ (m : Mount). m.place) (sym x.2) ∙ at, λ same. off (own ∙ same))

  -- one that stands nowhere is the top
  stands_not : (i : ℕ) (u : Mount) → mount_at us i ≡ Some u → u.place ≡ None → i ≡ k
  stands_not i u e at = elim (cases_eq i k) [
    | inl same ↦ same
    | inr off ↦
        let x = was i u e in
        let own = row_at-key id_of i ms x.0 x.1 in
        let p = t.placed i x.0 x.1 (λ s. off (s ∙ named)) in
        absurd (none-some p.0 (sym at ∙ ap (λ (m : Mount). m.place) x.2 ∙ other_place x.0 (λ s. off (sym own ∙ s)) ∙ p.2))
  ]

  -- the top stands nowhere
  pub tree_root : (r : Mount) × (mount_at us r.id ≡ Some r) × (r.place ≡ None)
  tree_root = (unplaced_top k top, row-mapped id_of (unplaced_top k) (λ m. refl) ms top.id top t.top_there, top_place top named)

  pub tree_sources : AreSources w us
  tree_sources = record {
    rising = rises-map id_of (unplaced_top k) (λ m. refl) ms ∙ t.rising;
    rooted = λ i m e. tree_root;
    one_root = λ i j m n ei ej pi pj. stands_not i m ei pi ∙ sym (stands_not j n ej pj);
    placed = λ i u p e at.
        let x = stood i u p e at in
        let q = t.placed i x.0 x.1 (λ s. x.3 (s ∙ named)) in
        let same : q.0 ≡ p = some-is q.0 p (sym q.2 ∙ x.2) in
        (unplaced_top k q.1, row-mapped id_of (unplaced_top k) (λ m. refl) ms p.mount q.1 (ap (λ (p : Place). mount_at ms p.mount) (sym same) ∙ q.3), ap (λ (p : Place). holds w.skel q.1.root p.dir) (sym same) ∙ q.4);
    apart = λ i j m n p ei ej pi pj. let x = stood i m p ei pi in let y = stood j n p ej pj in t.apart i j x.0 y.0 p x.1 y.1 x.2 y.2;
    no_cycle = no_cycle us (rank_of ms) (λ i j e.
        let m = parent-from us i j e in
        let x = stood i m.0 m.1 m.2 m.3 in
        subst (λ j. rank_of ms j < rank_of ms i) m.4 (rank_falls ms t.no_cycle i m.1.mount (parent-is ms i x.0 m.1 x.1 x.2)));
  }

-- what is opened where a path ends
module _ (w : WorldView) (n : ℕ) (from : List (List ℕ)) (recursive : Bool) (p : Place) (h : IsWellFormed w) (ended : walk w.skel w.forest n from ≡ Ok p) where
  abbrev ms : List Mount
  ms = (source_at w recursive p).mounts

  source : IsTree w.skel (source_at w recursive p).mounts (source_at w recursive p).top
  source = (bound_source w n from recursive p p h ended).tree

  pub opened-sources : AreSources w (opened_sources w recursive p)
  opened-sources = tree_sources w (source_at w recursive p).mounts (source_at w recursive p).top source p.mount (bound_top w n from recursive p h ended)

  pub opened-root : (r : Mount) × (mount_at (opened_sources w recursive p) r.id ≡ Some r) × (r.place ≡ None)
  opened-root = tree_root w (source_at w recursive p).mounts (source_at w recursive p).top source p.mount (bound_top w n from recursive p h ended)

  pub opened-shown : AreShown w (opened_sources w recursive p)
  opened-shown = record {
    shows = λ i u e.
        let x = mapped-row id_of (unplaced_top p.mount) (λ m. refl) ms i u e in
        let y = bound_shows w n from recursive p h ended i x.0 x.1 in
        (y.0, y.1, subst (λ (m : Mount). (directory w.skel m.root).fs ≡ fs_at w i) (sym x.2) y.2);
    low = λ i u e.
        let x = mapped-row id_of (unplaced_top p.mount) (λ m. refl) ms i u e in
        subst (λ (m : Mount). m.root < length w.skel.directories) (sym x.2) (source.roots i x.0 x.1);
  }

  -- it is of mounts of the path's namespace
  pub opened-inside : (i : ℕ) (u : Mount) → mount_at (opened_sources w recursive p) i ≡ Some u → space_of w i ≡ n
  opened-inside i u e =
      let x = mapped-row id_of (unplaced_top p.mount) (λ m. refl) ms i u e in
      let y = bound_shows w n from recursive p h ended i x.0 x.1 in
      let r = (walked w n h from p ended).0 in
      space_is w i y.0 y.1 ∙ sym (below-space w h p.mount i y.0 y.1 (bound_below w n from recursive p h ended i x.0 x.1)) ∙ space_is w p.mount r.0 r.1 ∙ r.2
