use Rattle.std.proofs.Common.{◌∙◌, ap}
use Rattle.mt_events.specs.declared.opening.Opening.{Opening}
use Rattle.mt_events.specs.Texts.{opening_text}
use Rattle.mt_desk.specs.Held.{HeldView}
use Rattle.mt_session.proofs.SharedLaws.{watch_told, watch_begun, watch_refused, watch_undone}
use Rattle.mt_session.proofs.shared_session.SharedSession.begin.Goals as goal

pub returns-in-Err-clause-text : goal.returns-in-Err-clause-text
returns-in-Err-clause-text g c = watch_refused c.args.desk.now.desk c.args.scope c.in-Err.fault c.told_refusal.result c.in-Err.ensures.refused c.told_refusal.ensures.ok

pub returns-in-Ok-opening-clause-text : goal.returns-in-Ok-opening-clause-text
returns-in-Ok-opening-clause-text g c =
    watch_told c.args.desk.now.desk c.open.new.self.desk c.args.scope c.in-Ok.watcher c.in-Ok-opening.text c.in-Ok.ensures.done (c.in-Ok-opening.ensures.text ∙ ap (λ (o : Opening). opening_text o) c.opening.ensures)

pub returns-in-Ok-opening-clause-begun : goal.returns-in-Ok-opening-clause-begun
returns-in-Ok-opening-clause-begun g c =
    watch_begun c.args.desk.now.desk c.open.new.self.desk c.args.scope c.in-Ok.watcher c.in-Ok.ensures.done (ap (λ (v : HeldView). v.desk) c.in-Ok.ensures.desk) c.in-Ok.ensures.key c.in-Ok.ensures.begins

pub returns-in-Err-opening-clause-undone : goal.returns-in-Err-opening-clause-undone
returns-in-Err-opening-clause-undone g c =
    let e = c.in-Ok.ensures in
    watch_undone c.args.desk.now.desk c.open.new.self.desk c.closed.new.desk.desk c.args.self.now.own c.args.scope c.in-Ok.watcher c.closed.result c.requires.none c.requires.desk e.done (ap (λ (v : HeldView). v.desk) e.desk) e.key e.begins c.closed.ensures.closed
