use Rattle.std.proofs.Common.{◌∙◌, Err, sym, refl}
use Rattle.mt_floor.specs.declared.event.Event.TheVariants.{Close}
use Rattle.mt_floor.specs.Schedule.{waiting}
use Rattle.mt_floor.proofs.SettledLaws.{close_idle}
use Rattle.mt_session.proofs.TurnLaws.{step_is, floor_is, idle_behind, all_told, close_told, close_refused}
use Rattle.mt_session.proofs.session.close.Goals as goal

pub returns-in-Ok-clause-ok : goal.returns-in-Ok-clause-ok
returns-in-Ok-clause-ok c =
    let s = c.args.floor.now in
    let p = c.in_ok-printed in
    let told = all_told (waiting s c.args.key) c.waiting_count-count.result p.printed.lines c.deref.result.now c.in_ok-text.text c.waiting_count-count.ensures p.ensures.lines (c.deref.ensures.value ∙ p.ensures.text) c.in_ok-text.ensures in
    (told ∙ sym (close_told s c.step.new.self c.requires.idle c.args.key c.in-Ok.field-0 c.in-Ok.ensures.done), floor_is _ _ _ _ c.in-Ok.ensures.done)

pub returns-in-Ok-clause-idle : goal.returns-in-Ok-clause-idle
returns-in-Ok-clause-idle c = idle_behind _ _ _ _ c.in-Ok.ensures.done (close_idle c.args.floor.now c.args.key c.requires.idle)

pub returns-clause-ok : goal.returns-clause-ok
returns-clause-ok c =
    let is = step_is c.args.floor.now c.step.new.self (Close c.args.key) (Err c.in-Err.fault) refl c.in-Err.ensures.done c.in-Err.ensures.refused c.in-Err.ensures.memory in
    (c.refusal.ensures ∙ sym (close_refused c.args.floor.now c.step.new.self c.requires.idle c.args.key c.in-Err.fault is), floor_is _ _ _ _ is)
