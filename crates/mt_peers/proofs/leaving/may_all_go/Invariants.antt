use Rattle.std.proofs.Common.{◌≡◌, drop}
use Rattle.std.specs.List.{list_all}
use Rattle.mt_skel.specs.Keyed.{among}
use Rattle.mt_peers.specs.Going.{may_go}
use Rattle.mt_peers.proofs.leaving.may_all_go.Given as goal

-- the mounts passed take no master along
abbrev pub invariant-loop-id : goal.invariant-loop-id
invariant-loop-id l = list_all (may_go l.members.rows l.slaves.rows (among l.gone)) (drop l.id-index l.ids) ≡ list_all (may_go l.members.rows l.slaves.rows (among l.gone)) l.ids
