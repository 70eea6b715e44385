use Rattle.std.proofs.Common.{◌==◌, sym, ◌∙◌}
use Rattle.std.proofs.lemmas.List.Sorted.{list_any-IsPermutation}
use Rattle.mt_peers.specs.Peers.{members}
use Rattle.mt_peers.specs.Coming.{coming}
use Rattle.mt_propagate.specs.World.{world_view, space_of}
use Rattle.mt_propagate.proofs.SeenLaws.{members-seen}
use Rattle.mt_propagate.proofs.seen_groups.is_seen.Goals as goal

pub returns : goal.returns
returns c =
    let w = world_view c.args.world.now in
    c.any_in.ensures
    ∙ sym (list_any-IsPermutation (λ i. space_of w i == c.args.space) (members w.peering.peers c.args.group) (coming c.peers_of.result) c.peers_of.ensures)
    ∙ members-seen w c.args.space c.args.group w.peering.peers
