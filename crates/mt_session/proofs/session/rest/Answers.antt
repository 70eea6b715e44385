use Rattle.std.proofs.Common.{◌∙◌, Err, ap, sym, refl, is_some}
use Rattle.mt_floor.specs.declared.event.Event.TheVariants.{Meet}
use Rattle.mt_floor.proofs.SettledLaws.{meet_same}
use Rattle.mt_events.specs.Texts.{count_text}
use Rattle.mt_session.proofs.TurnLaws.{step_is, floor_is, meet_told, meet_refused}
use Rattle.mt_session.proofs.session.rest.Goals as goal

pub rest_of-requires : goal.rest_of-requires
rest_of-requires c = ap is_some (meet_told c.args.floor.now c.step.new.self c.requires.idle (count_text c.args.told) c.args.key c.in-Ok.met c.in-Ok.ensures.done).1

pub returns-in-Ok-clause-text : goal.returns-in-Ok-clause-text
returns-in-Ok-clause-text c =
    let t = meet_told c.args.floor.now c.step.new.self c.requires.idle (count_text c.args.told) c.args.key c.in-Ok.met c.in-Ok.ensures.done in
    c.rest_of.ensures t.0 t.1 ∙ sym t.2

pub returns-in-Ok-clause-floor : goal.returns-in-Ok-clause-floor
returns-in-Ok-clause-floor c = floor_is _ _ _ _ c.in-Ok.ensures.done ∙ meet_same c.args.floor.now c.args.key

pub returns-in-Err-clause-text : goal.returns-in-Err-clause-text
returns-in-Err-clause-text c =
    let is = step_is c.args.floor.now c.step.new.self (Meet c.args.key) (Err c.in-Err.fault) refl c.in-Err.ensures.done c.in-Err.ensures.refused c.in-Err.ensures.memory in
    c.refusal.ensures ∙ sym (meet_refused c.args.floor.now c.step.new.self c.requires.idle (count_text c.args.told) c.args.key c.in-Err.fault is)
