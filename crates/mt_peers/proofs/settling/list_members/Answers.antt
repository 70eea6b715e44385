use Rattle.std.proofs.Common.{sym, ap, ◌∙◌, arith}
use Rattle.mt_lists.specs.Lists.{ListsView}
use Rattle.mt_lists.proofs.RowLaws.{same_of}
use Rattle.mt_peers.specs.Listed.{peer_group}
use Rattle.mt_peers.proofs.ListedLaws.{mixed-step, mixed-same}
use Rattle.mt_peers.proofs.settling.list_members.Goals as goal
use Rattle.mt_peers.proofs.settling.list_members.Goals.{then-ne, else-ne}

pub loop-entry-preserved : goal.loop-entry-preserved
loop-entry-preserved c = elim c.if-ne.branch [
  | then-ne w ↦ record {
    told = ap (λ (v : ListsView). v.rows) w.members-is ∙ w.set.ensures.rows ∙ mixed-step peer_group c.args.entries.now c.loop-entry.entry-index _ c.loop-entry.members.rows c.loop-entry-test.true c.requires.rising c.loop-entry.invariant.told;
    room = let e = ap (λ (v : ListsView). v.room) w.members-is in omega (arith, e, w.set.ensures.room, c.loop-entry.invariant.room);
  }
  | else-ne w ↦ record {
    told = ap (λ (v : ListsView). v.rows) w.members-is ∙ mixed-same peer_group c.args.entries.now c.loop-entry.entry-index _ c.loop-entry.members.rows c.loop-entry-test.true (same_of _ _ (sym w.if-ne.false ∙ c.ne.ensures)) c.loop-entry.invariant.told;
    room = let e = ap (λ (v : ListsView). v.room) w.members-is in omega (arith, e, c.loop-entry.invariant.room);
  }
]
