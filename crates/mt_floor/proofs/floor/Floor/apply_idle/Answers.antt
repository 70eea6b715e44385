use Rattle.std.proofs.Common.{◌∙◌, sym, ap, Err, [], ◌++◌, ◌∷◌}
use Rattle.std.specs.Arc.{arc_value}
use Rattle.std.proofs.lemmas.Result.{err_from_is_err_and}
use Rattle.mt_skel.specs.declared.fault.Fault.{Fault}
use Rattle.mt_floor.specs.Schedule.{FloorView}
use Rattle.mt_floor.specs.Rows.{floor_of}
use Rattle.mt_floor.proofs.ApplyLaws.{apply_stopped, apply_refused, apply_done}
use Rattle.mt_floor.proofs.floor.Floor.apply_idle.Goals as goal

pub returns-then-self-clause-refused : goal.returns-then-self-clause-refused
returns-then-self-clause-refused c = λ ne. apply_stopped c.self.invariant c.self.view_is c.requires.idle c.args.command.now c.if-self.true

pub returns-in_err-prepared-clause-refused : goal.returns-in_err-prepared-clause-refused
returns-in_err-prepared-clause-refused c =
    let f = c.self.inside in
    let p = err_from_is_err_and c.from_residual.result c.from_residual.ensures.1 in
    let fault : Fault = c.in_err-prepared.field-0.0 in
    rw (p.1, p.2) (λ ne. apply_refused c.self.invariant c.self.view_is c.requires.idle c.args.command.now c.if-self.false (c.in_err-prepared.ensures.refused ne)
    ∙ ap (λ (s : FloorView). (s, Err fault)) (sym c.self.view_is ∙ ap (λ js. floor_of f.capacity js f.last_key f.stopped f.rows.items f.due.items) (sym c.in_err-prepared.ensures.unchanged)))

pub invariant_of-self-2 : goal.invariant_of-self-2
invariant_of-self-2 c =
    let p = c.in_ok-prepared in
    let journal = c.commit-reply.ensures.journal ∙ ap (λ js. js ++ p.prepared.command ∷ []) p.ensures.unchanged in
    (apply_done c.self.invariant c.self.view_is c.requires.idle (λ a. arc_value a) c.posts.result.now c.args.command.now c.if-self.false p.ensures.prepared (p.ensures.heard ∙ c.is_heard.ensures) c.deref.ensures.value p.ensures.command journal
    c.in_ok-due.ensures.due c.deref-2.ensures.value c.posts.ensures c.commit-reply.ensures.reply).kept

pub returns-clause-done : goal.returns-clause-done
returns-clause-done c =
    let p = c.in_ok-prepared in
    let journal = c.commit-reply.ensures.journal ∙ ap (λ js. js ++ p.prepared.command ∷ []) p.ensures.unchanged in
    (apply_done c.self.invariant c.self.view_is c.requires.idle (λ a. arc_value a) c.posts.result.now c.args.command.now c.if-self.false p.ensures.prepared (p.ensures.heard ∙ c.is_heard.ensures) c.deref.ensures.value p.ensures.command journal
    c.in_ok-due.ensures.due c.deref-2.ensures.value c.posts.ensures c.commit-reply.ensures.reply).step
