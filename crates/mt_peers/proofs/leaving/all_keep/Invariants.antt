use Rattle.std.proofs.Common.{◌≡◌, drop}
use Rattle.std.specs.List.{list_all}
use Rattle.mt_skel.specs.Keyed.{among}
use Rattle.mt_peers.specs.Going.{keeps}
use Rattle.mt_peers.proofs.leaving.all_keep.Given as goal

-- the mounts passed lose no group its last member
abbrev pub invariant-loop-id : goal.invariant-loop-id
invariant-loop-id l = list_all (keeps l.members.rows (among l.lost)) (drop l.id-index l.ids) ≡ list_all (keeps l.members.rows (among l.lost)) l.ids
