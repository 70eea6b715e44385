use Rattle.std.proofs.Common.{◌∙◌, arith}
use Rattle.mt_skel.specs.Keyed.{among}
use Rattle.mt_peers.proofs.ChangeLaws.{change-step, small-fresh}
use Rattle.mt_peers.proofs.entries.change_all.Goals as goal

pub fresh_after-fresh-requires : goal.fresh_after-fresh-requires
fresh_after-fresh-requires c =
    record { numbered = small-fresh c.args.kind (among c.args.ids.now) c.args.next c.loop-i.fresh c.args.entries.now c.loop-i.i (omega arith) c.loop-i.invariant.fresh c.requires.numbered }

pub loop-i-preserved : goal.loop-i-preserved
loop-i-preserved c =
    let step = change-step c.args.kind c.args.ids.now c.args.next c.loop-i.fresh c.args.entries.now c.loop-i.entries c.loop-i.i _ c.has-chosen.result c.entry_after-after.result
    (omega arith) c.loop-i.auto.entries c.requires.rising c.loop-i.invariant.entries c.loop-i.invariant.fresh c.has-chosen.ensures c.entry_after-after.ensures in
    record { entries = step.0; fresh = c.fresh_after-fresh.ensures ∙ step.1 }
