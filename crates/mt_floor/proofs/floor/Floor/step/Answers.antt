use Rattle.std.proofs.Common.{◌∙◌, sym}
use Rattle.mt_floor.specs.declared.event.Event.TheVariants.{Take, Close}
use Rattle.mt_floor.proofs.SettledLaws.{put_off, refused_still}
use Rattle.mt_floor.proofs.floor.Floor.step.Goals as goal

pub returns-then-puts_off-clause-done : goal.returns-then-puts_off-clause-done
returns-then-puts_off-clause-done c = put_off c.args.self.now c.args.event (sym c.puts_off.ensures ∙ c.if-puts_off.true)

pub returns-in-Take-clause-unchanged : goal.returns-in-Take-clause-unchanged
returns-in-Take-clause-unchanged c = refused_still c.args.self.now c.take.new.self (Take c.in-Take.key) c.take.result c.take.ensures.done

pub returns-in-Close-clause-unchanged : goal.returns-in-Close-clause-unchanged
returns-in-Close-clause-unchanged c = refused_still c.args.self.now c.close.new.self (Close c.in-Close.key) c.close.result c.close.ensures.done
