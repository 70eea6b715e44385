-- The rows of a well-formed world tell the states and directories of its mounts.
use Rattle.std.proofs.Common.{◌≡◌, ℕ, true, List, [], ◌∷◌, map, Option, Some, None, refl, sym, ap, ◌∙◌, arith, inl, inr}
use Rattle.std.specs.Option.{option_and_then, option_map, unwrap_or}
use Rattle.std.proofs.lemmas.Bool.Decides.{nat_tests}
use Rattle.mt_skel.specs.Skeleton.{holds, is_directory}
use Rattle.mt_skel.proofs.ElementLaws.{In, in_map, in_row}
use Rattle.mt_mounts.specs.declared.mount.Mount.{Mount}
use Rattle.mt_mounts.specs.Forest.{id_of}
use Rattle.mt_peers.specs.declared.state.State.{State}
use Rattle.mt_peers.specs.Peers.{Peer, mount_of, state_at}
use Rattle.mt_peers.specs.Members.{group_at}
use Rattle.mt_propagate.specs.World.{WorldView, private, group_of, root_dir}
use Rattle.mt_propagate.specs.WellFormed.{IsWellFormed}
use Rattle.mt_propagate.proofs.ListedLaws.{map-map}
use Rattle.mt_propagate.proofs.JoinLaws.{state_in}
use Rattle.mt_reach.specs.declared.row.SeenRow.{SeenRow}
use Rattle.mt_reach.specs.Rows.{shows, peer_in, peers_in, seen_group}
use Rattle.mt_reach.specs.Seen.{seen_mount, seen_rows, seen_directory}

-- a mount with the state that is read of it
abbrev read_peer : List Peer → ℕ → Peer
read_peer es i = record { mount = i; state = unwrap_or (state_at es i) private }

-- mounts whose states are read are listed as they were
all_read : (es xs : List Peer) → ((e : Peer) → In e xs → state_at es e.mount ≡ Some e.state) → map (read_peer es) (map mount_of xs) ≡ xs
all_read es [] there = refl
all_read es (x ∷ xs) there =
    let ih = all_read es xs (λ e at. there e (inr at)) in
    let here : read_peer es x.mount ≡ x = ap (λ o. record { mount = x.mount; state = unwrap_or o private }) (there x (inl refl)) in
    λ i. here i ∷ ih i

-- the states that the rows tell are those of the world
pub peers_seen : (w : WorldView) → IsWellFormed w → peers_in (seen_rows w) ≡ w.peering.peers
peers_seen w h =
    let es = w.peering.peers in
    map-map (seen_mount w) peer_in (λ (m : Mount). read_peer es m.id) (λ m. refl) w.forest
    ∙ sym (map-map id_of (read_peer es) (λ (m : Mount). read_peer es m.id) (λ m. refl) w.forest)
    ∙ ap (map (read_peer es)) h.same_mounts ∙ all_read es es (λ e at. state_in es h.peering.rising e at)

-- the group that the rows tell of a mount is that of its state
group_read : (rows : List SeenRow) (i : ℕ) → seen_group rows i ≡ group_at (peers_in rows) i
group_read [] i = refl
group_read (r ∷ rows) i = grind (arith, nat_tests, group_read rows i)

group_there : (w : WorldView) (i : ℕ) → group_at w.peering.peers i ≡ group_of w i
group_there w i = go (state_at w.peering.peers i)
  where
    go : (o : Option State) → option_and_then (λ (s : State). s.group) o ≡ (unwrap_or o private).group
    go None = refl
    go (Some s) = refl

pub group_seen : (w : WorldView) → IsWellFormed w → (i : ℕ) → seen_group (seen_rows w) i ≡ group_of w i
group_seen w h i = group_read (seen_rows w) i ∙ ap (λ es. group_at es i) (peers_seen w h) ∙ group_there w i

-- a row shows a directory that is there where its mount does
pub shows_seen : (w : WorldView) → IsWellFormed w → (d : ℕ) → is_directory w.skel d ≡ true → (r : SeenRow) → In r (seen_rows w) → holds w.skel (root_dir w r.id) d ≡ shows r (seen_directory w d)
shows_seen w h d there r at = let m = in_map (seen_mount w) r w.forest at in one m.0 m.1 r m.2
  where
    one : (m : Mount) → In m w.forest → (r : SeenRow) → seen_mount w m ≡ r → holds w.skel (root_dir w r.id) d ≡ shows r (seen_directory w d)
    one m at r e =
        let root : root_dir w m.id ≡ m.root = ap (λ o. unwrap_or (option_map (λ (m : Mount). m.root) o) 0) (in_row id_of w.forest m h.forest.rising at) in
        ap (λ (r : SeenRow). holds w.skel (root_dir w r.id) d) (sym e) ∙ ap (λ k. holds w.skel k d) root ∙ grind (arith, nat_tests) ∙ ap (λ (r : SeenRow). shows r (seen_directory w d)) e
