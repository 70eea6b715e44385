use Rattle.std.proofs.Common.{nat_eq, arith}
use Rattle.indexmap.specs.IndexMap.{get}
use Rattle.mt_peers.specs.Entries.{now_peers}
use Rattle.mt_peers.proofs.VanishedLaws.{enter-step, has-at}
use Rattle.mt_peers.proofs.vanished.enter_all.Goals as goal

pub loop-entry-preserved : goal.loop-entry-preserved
loop-entry-preserved c =
    let es = c.args.entries.now in
    let i = c.loop-entry.entry-index in
    record {
      told = λ g off.
          enter-step es i g _ (get nat_eq c.loop-entry.vanished g) (get nat_eq c.enter.new.vanished g) c.loop-entry-test.true (c.loop-entry.invariant.told g off)
          (c.enter.ensures.entered (now_peers es) g c.requires.listed off (has-at es i _ g c.loop-entry-test.true off));
      near = λ most. c.enter.ensures.near most (c.loop-entry.invariant.near most);
      room = omega (arith, c.loop-entry.invariant.room, c.enter.ensures.room);
    }
