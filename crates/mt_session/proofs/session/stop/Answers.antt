use Rattle.std.proofs.Common.{refl}
use Rattle.mt_floor.specs.declared.event.Event.TheVariants.{Stop}
use Rattle.mt_floor.proofs.SettledLaws.{stop_idle}
use Rattle.mt_session.proofs.TurnLaws.{step_is, idle_behind}
use Rattle.mt_session.proofs.session.stop.Goals as goal

pub returns-clause-idle : goal.returns-clause-idle
returns-clause-idle c =
    let e = c.step.ensures in
    idle_behind _ _ _ _ (step_is c.args.floor.now c.step.new.self Stop c.step.result refl e.done e.refused e.memory) (stop_idle c.args.floor.now c.requires.idle)
