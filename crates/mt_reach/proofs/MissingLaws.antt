-- In a well-formed world each master has a member, and so no group is missing.
use Rattle.std.proofs.Common.{◌≡◌, ℕ, true, cond, List, [], ◌∷◌, ◌++◌, Option, Some, None, refl, sym, ap, ◌∙◌}
use Rattle.std.specs.Prelude.{unwrap_or}
use Rattle.std.specs.List.{find, flat_map}
use Rattle.std.specs.Option.{option_and_then}
use Rattle.mt_skel.proofs.ElementLaws.{find_in, in_map, row_in}
use Rattle.mt_mounts.specs.declared.mount.Mount.{Mount}
use Rattle.mt_peers.specs.declared.state.State.{State}
use Rattle.mt_peers.specs.Peers.{Peer, in_group, state_at, has_member}
use Rattle.mt_peers.specs.Masters.{master_of}
use Rattle.mt_propagate.specs.World.{WorldView, private, state_of}
use Rattle.mt_propagate.specs.WellFormed.{IsWellFormed}
use Rattle.mt_propagate.proofs.JoinLaws.{state_in}
use Rattle.mt_reach.specs.declared.row.SeenRow.{SeenRow}
use Rattle.mt_reach.specs.Rows.{seen_id, seen_at, peers_in}
use Rattle.mt_reach.specs.Seen.{seen_mount, seen_rows}
use Rattle.mt_reach.specs.Missing.{groups_told, if_missing, missing_groups}
use Rattle.mt_reach.proofs.SeenLaws.{peers_seen}

module _ (w : WorldView) (h : IsWellFormed w) where
  abbrev es : List Peer
  es = w.peering.peers

  -- the master of a group has a member
  lives_up : (x y : ℕ) → master_of es x ≡ Some y → has_member es y ≡ true
  lives_up x y e = go (find (in_group x) es) refl e
    where
      go : (o : Option Peer) → find (in_group x) es ≡ o → option_and_then (λ (p : Peer). p.state.master) o ≡ Some y → has_member es y ≡ true
      go None is f = absurd (cc)
      go (Some p) is f = h.peering.master_lives p.mount p.state y (state_in es h.peering.rising p (find_in (in_group x) es p is).0) f

  -- and so has that of a mount
  told_lives : (i g : ℕ) → (state_of w i).master ≡ Some g → has_member es g ≡ true
  told_lives i g e = go (state_at es i) refl e
    where
      go : (o : Option State) → state_at es i ≡ o → (unwrap_or o private).master ≡ Some g → has_member es g ≡ true
      go None is f = absurd (cc)
      go (Some s) is f = h.peering.master_lives i s g is f

  -- so none of them is missing
  none_if : (o : Option ℕ) → ((m : ℕ) → o ≡ Some m → has_member es m ≡ true) → if_missing (seen_rows w) o ≡ []
  none_if None lives = refl
  none_if (Some m) lives = ap (λ b. cond b [] (m ∷ [])) (ap (λ ps. has_member ps m) (peers_seen w h) ∙ lives m refl)

  none_of_all : (xs : List ℕ) → flat_map (λ g. if_missing (seen_rows w) (master_of (peers_in (seen_rows w)) g)) xs ≡ []
  none_of_all [] = refl
  none_of_all (x ∷ xs) =
      let here = none_if (master_of (peers_in (seen_rows w)) x) (λ m e. lives_up x m (ap (λ ps. master_of ps x) (sym (peers_seen w h)) ∙ e)) in
      (λ k. here k ++ none_of_all xs k)

  none_of_mount : (m : Mount) → missing_groups (seen_rows w) (seen_mount w m) ≡ []
  none_of_mount m =
      (λ k. none_if (state_of w m.id).master (told_lives m.id) k ++ none_of_all (groups_told (seen_rows w) (seen_mount w m)) k)

  pub none_missing : (i : ℕ) (r : SeenRow) → seen_at (seen_rows w) i ≡ Some r → missing_groups (seen_rows w) r ≡ []
  none_missing i r e =
      let m = in_map (seen_mount w) r w.forest (row_in seen_id i (seen_rows w) r e) in
      ap (missing_groups (seen_rows w)) (sym m.2) ∙ none_of_mount m.0
