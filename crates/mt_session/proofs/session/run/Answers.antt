use Rattle.std.proofs.Common.{◌∙◌, ap, sym, is_some}
use Rattle.mt_floor.specs.Schedule.{settled}
use Rattle.mt_session.proofs.TurnLaws.{floor_is, apply_told, apply_refused}
use Rattle.mt_session.proofs.session.run.Goals.{in-Ok, in-Err+in_ok-text-in-Err}
use Rattle.mt_session.proofs.session.run.Goals as goal

pub told_reply-text-requires : goal.told_reply-text-requires
told_reply-text-requires c = ap is_some (apply_told c.args.floor.now c.apply.new.self c.requires.idle c.args.command.now c.in-Ok.answer c.in-Ok.ensures.done).1

pub returns-clause-ok : goal.returns-clause-ok
returns-clause-ok c = elim c.match-apply.branch [
  | in-Ok w ↦
      let t = apply_told c.args.floor.now c.apply.new.self c.requires.idle c.args.command.now w.in-Ok.answer w.in-Ok.ensures.done in
      (w.text-is ∙ w.told_reply-text.ensures t.0 t.1 ∙ sym t.2, c.settle.ensures.settled ∙ ap settled (floor_is _ _ _ _ w.in-Ok.ensures.done))
  | in-Err+in_ok-text-in-Err w ↦
      let told = w.in_ok-text-in-Err.ensures.ok in
      let is = w.in-Err.ensures.refused told.1 in
      (w.text-is ∙ told.0 ∙ sym (apply_refused c.args.floor.now c.apply.new.self c.requires.idle c.args.command.now w.in-Err.fault is), c.settle.ensures.settled ∙ ap settled (floor_is _ _ _ _ is))
]
