-- The mounts that the rows of a world name are its propagation targets.
use Rattle.std.proofs.Common.{◌≡◌, ℕ, Bool, true, not, ◌==◌, List, [], ◌∷◌, map, Option, Some, None, refl, ap, ◌∙◌, arith, inl, inr}
use Rattle.std.specs.List.{filter}
use Rattle.std.specs.Option.{option_map_or}
use Rattle.mt_skel.specs.Skeleton.{holds, is_directory}
use Rattle.mt_skel.proofs.ElementLaws.{In}
use Rattle.mt_mounts.specs.declared.mount.Place.{Place}
use Rattle.mt_peers.specs.Peers.{Peer, mount_of}
use Rattle.mt_propagate.specs.World.{WorldView, group_of, root_dir}
use Rattle.mt_propagate.specs.WellFormed.{IsWellFormed}
use Rattle.mt_propagate.specs.Receivers.{gets_from, hits}
use Rattle.mt_reach.specs.declared.row.SeenRow.{SeenRow}
use Rattle.mt_reach.specs.declared.row.SeenDirectory.{SeenDirectory}
use Rattle.mt_reach.specs.Rows.{seen_id, shows, peer_in, peers_in}
use Rattle.mt_reach.specs.Seen.{seen_rows, seen_directory}
use Rattle.mt_reach.specs.Reached.{is_reached, reached}
use Rattle.mt_reach.proofs.SeenLaws.{peers_seen, group_seen, shows_seen}

-- rows that pass three tests, one after the other by their IDs
module _ (all : List SeenRow) (i g : ℕ) (d : SeenDirectory) (held : ℕ → Bool) where
  passed : (rows : List SeenRow) → ((r : SeenRow) → In r rows → held r.id ≡ shows r d)
      → map seen_id (filter (is_reached all i d g) rows) ≡ filter held (filter (λ j. not (i == j)) (map mount_of (filter (gets_from (peers_in all) g) (map peer_in rows))))
  passed [] same = refl
  passed (r ∷ rows) same =
      let ih = passed rows (λ q at. same q (inr at)) in
      let here = same r (inl refl) in
      grind arith

module _ (w : WorldView) (p : Place) (h : IsWellFormed w) (there : is_directory w.skel p.dir ≡ true) where
  abbrev held : ℕ → Bool
  held j = holds w.skel (root_dir w j) p.dir

  abbrev listed : ℕ → List ℕ
  listed g = map seen_id (filter (is_reached (seen_rows w) p.mount (seen_directory w p.dir) g) (seen_rows w))

  abbrev receiving : List Peer → ℕ → List ℕ
  receiving es g = filter (λ j. not (p.mount == j)) (map mount_of (filter (gets_from es g) es))

  pub reached_hits : reached (seen_rows w) p.mount (seen_directory w p.dir) ≡ hits w p
  reached_hits = ap (λ o. option_map_or listed o []) (group_seen w h p.mount) ∙ go (group_of w p.mount)
    where
      go : (o : Option ℕ) → option_map_or listed o [] ≡ filter held (option_map_or (receiving w.peering.peers) o [])
      go None = refl
      go (Some g) =
          passed (seen_rows w) p.mount g (seen_directory w p.dir) held (seen_rows w) (shows_seen w h p.dir there)
          ∙ ap (λ es. filter held (receiving es g)) (peers_seen w h)
