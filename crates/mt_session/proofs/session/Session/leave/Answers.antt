use Rattle.std.proofs.Common.{refl}
use Rattle.mt_floor.specs.declared.event.Event.TheVariants.{Close}
use Rattle.mt_floor.proofs.SettledLaws.{close_idle}
use Rattle.mt_session.proofs.TurnLaws.{step_is, idle_behind}
use Rattle.mt_session.proofs.session.Session.leave.Goals as goal

pub returns-in-Some-clause-idle : goal.returns-in-Some-clause-idle
returns-in-Some-clause-idle c =
    let e = c.step.ensures in
    idle_behind _ _ _ _ (step_is c.settle.new.self c.step.new.self (Close c.in-Some.key) c.step.result refl e.done e.refused e.memory) (close_idle c.settle.new.self c.in-Some.key c.settle.ensures.idle)
