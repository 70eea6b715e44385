-- How much a change of mounts adds to a world.
use Rattle.std.proofs.Common.{◌≡◌, ℕ, ◌+◌, ◌≤◌, Bool, true, false, cond, ◌&&◌, List, length, Option, Some, None, Ok, sym, ap, subst, ◌∙◌, arith}
use Rattle.std.specs.List.{filter}
use Rattle.std.specs.Option.{is_none, option_map_or}
use Rattle.std.proofs.lemmas.List.{length-map}
use Rattle.mt_mounts.specs.Forest.{id_of}
use Rattle.mt_peers.specs.declared.state.Kind.{Kind}
use Rattle.mt_peers.specs.Peers.{Peer, Peering, mount_of}
use Rattle.mt_peers.specs.Making.{made, groupless, is_shared}
use Rattle.mt_propagate.specs.World.{WorldView}
use Rattle.mt_propagate.specs.WellFormed.{IsWellFormed}
use Rattle.mt_propagate.specs.Limits.{most_mounts}
use Rattle.mt_propagate.proofs.SizeLaws.{IsSized, few_pass}
use Rattle.mt_setattr.specs.declared.change.Change.{Change}
use Rattle.mt_setattr.specs.Change.{attributed, with_change, changed_mount, is_chosen}
use Rattle.mt_setattr.proofs.AcceptedLaws.{path_end, change_accepted}

-- a change gives at most as many groups as there are mounts
few_groups : (k : Kind) (chosen : ℕ → Bool) (p : Peering) → (made k chosen p).next ≤ p.next + length p.peers
unfolding made
few_groups k chosen p =
    let few = few_pass (λ (e : Peer). chosen e.mount && is_none e.state.group) p.peers in
    let same = length-map (filter (λ (e : Peer). chosen e.mount && is_none e.state.group) p.peers) mount_of in
    elim (is_shared k) as (λ b. cond b (p.next + length (groupless chosen p.peers)) p.next ≤ p.next + length p.peers) [
      | true ↦ omega (arith, few, same)
      | false ↦ omega arith
    ]

changed_groups : (k : Option Kind) (chosen : ℕ → Bool) (p : Peering) → (option_map_or (λ k. made k chosen p) k p).next ≤ p.next + length p.peers
changed_groups None chosen p = omega arith
changed_groups (Some k) chosen p = few_groups k chosen p

-- a change of mounts
changed_sized : (w : WorldView) (c : Change) (i : ℕ) → IsWellFormed w → length w.forest ≤ most_mounts → IsSized w (with_change w c i) 0
unfolding with_change
changed_sized w c i h few =
    let groups = changed_groups c.prop (is_chosen w c i) w.peering in
    let as_many : length w.peering.peers ≡ length w.forest = sym (length-map w.peering.peers mount_of) ∙ ap length (sym h.same_mounts) ∙ length-map w.forest id_of in
    record {
      spaces = omega arith;
      mounts = omega arith;
      groups = omega (arith, groups, as_many, few);
      within = omega (arith, few, length-map w.forest (changed_mount c (is_chosen w c i)));
    }

pub attr_sized : (w v : WorldView) (n : ℕ) (path : List (List ℕ)) (c : Change) → IsWellFormed w → length w.forest ≤ most_mounts → attributed w n path c ≡ Ok v → IsSized w v 0
attr_sized w v n path c h few e = subst (λ (x : WorldView). IsSized w x 0) (change_accepted w n path c v e).world (changed_sized w c (path_end w n path).mount h few)
