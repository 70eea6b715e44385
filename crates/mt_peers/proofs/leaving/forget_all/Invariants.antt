use Rattle.std.proofs.Common.{◌≡◌, ◌≤◌, drop}
use Rattle.mt_skel.specs.Keyed.{among, without}
use Rattle.mt_lists.specs.Lists.{ListRow}
use Rattle.mt_peers.proofs.leaving.forget_all.Given as goal

-- without the IDs that are still to come, the rows are those that stay
abbrev pub invariant-loop-id : goal.invariant-loop-id
invariant-loop-id l = record {
  told : without (λ (r : ListRow). among (drop l.id-index l.ids) r.id) l.lists.rows ≡ without (λ (r : ListRow). among l.ids r.id) l.initial.lists.rows;
  room : l.initial.lists.room ≤ l.lists.room;
}
