use Rattle.std.proofs.Common.{◌++◌, [], arith}
use Rattle.mt_what_if.specs.Abridged.{abridged_from}
use Rattle.mt_what_if.proofs.AbridgedLaws.{abridged_step, abridged_end}
use Rattle.mt_what_if.proofs.abridged.push_abridged.Goals as goal

pub all-preserved : goal.all-preserved
all-preserved c =
    abridged_step c.args.all.now c.all.place c.index-all-place.result c.all.text.items c.push_one.new.text.items
    (c.args.text.now.items ++ abridged_from c.args.all.now [] c.args.all.now) (omega (arith, c.all-test.true)) c.index-all-place.is c.in_ok-push_one.ensures c.all.invariant

pub returns : goal.returns
returns c =
    abridged_end c.args.all.now c.all.place c.all.text.items (c.args.text.now.items ++ abridged_from c.args.all.now [] c.args.all.now)
    (omega (arith, c.all-test.false)) c.all.invariant
