use Rattle.std.proofs.Common.{◌∙◌, sym, refl}
use Rattle.mt_floor.specs.declared.event.Event.TheVariants.{Close}
use Rattle.mt_floor.proofs.SettledLaws.{open_idle, close_idle}
use Rattle.mt_session.proofs.TurnLaws.{step_is, floor_is, idle_behind, open_begins, open_told, refused_watch, undone_watch}
use Rattle.mt_session.proofs.session.Session.watch.Goals as goal

pub returns-in-Err-clause-ok : goal.returns-in-Err-clause-ok
returns-in-Err-clause-ok c =
    refused_watch c.args.floor.now c.step.new.self c.requires.idle c.args.scope c.in-Err.fault c.args.self.now c.told_refusal.result c.requires.none c.in-Err.ensures.refused c.told_refusal.ensures.ok

pub begun_by-key-requires : goal.begun_by-key-requires
begun_by-key-requires c = open_begins c.args.floor.now c.step.new.self c.requires.idle c.args.scope c.in-Ok.answer c.in-Ok.ensures.done

pub returns-in-Ok-opening-clause-ok : goal.returns-in-Ok-opening-clause-ok
returns-in-Ok-opening-clause-ok c =
    let b = c.begun_by-key in
    let t = open_told c.args.floor.now c.step.new.self c.requires.idle c.args.scope c.in-Ok.answer b.result.0 b.result.1 c.in-Ok.ensures.done b.ensures in
    (c.in-Ok-opening.ensures.text ∙ sym t.0, sym t.1)

pub returns-in-Ok-opening-clause-idle : goal.returns-in-Ok-opening-clause-idle
returns-in-Ok-opening-clause-idle c = idle_behind _ _ _ _ c.in-Ok.ensures.done (open_idle c.args.floor.now c.args.scope c.requires.idle)

pub returns-clause-memory : goal.returns-clause-memory
returns-clause-memory c =
    let e = c.step-in-Err-opening.ensures in
    let b = c.begun_by-key in
    let is = step_is c.step.new.self c.step-in-Err-opening.new.self (Close b.result.0) c.step-in-Err-opening.result refl e.done e.refused e.memory in (
      c.in-Err-opening.ensures.memory,
      undone_watch c.args.floor.now c.step.new.self c.step-in-Err-opening.new.self c.args.scope c.in-Ok.answer b.result.0 b.result.1 c.args.self.now c.requires.idle c.requires.none c.in-Ok.ensures.done b.ensures (floor_is _ _ _ _ is),
    )

pub returns-clause-idle : goal.returns-clause-idle
returns-clause-idle c =
    let e = c.step-in-Err-opening.ensures in
    let idle = idle_behind _ _ _ _ c.in-Ok.ensures.done (open_idle c.args.floor.now c.args.scope c.requires.idle) in
    let is = step_is c.step.new.self c.step-in-Err-opening.new.self (Close c.begun_by-key.result.0) c.step-in-Err-opening.result refl e.done e.refused e.memory in
    idle_behind _ _ _ _ is (close_idle c.step.new.self c.begun_by-key.result.0 idle)
