use Rattle.std.proofs.Common.{◌∙◌, ◌∷◌, [], ◌++◌, List, ap}
use Rattle.std.specs.List.{list_any}
use Rattle.std.proofs.lemmas.Result.{err_from_is_err_and}
use Rattle.mt_book.specs.declared.command.Command.{Command}
use Rattle.mt_desk.specs.Sending.{slot_hears}
use Rattle.mt_desk.proofs.SentLaws.{apply_stopped, apply_refused}
use Rattle.mt_desk.proofs.SendingLaws.{low_places, due_found, prepared_due, prepared_kept}
use Rattle.mt_desk.proofs.board.Board.apply.Goals as goal

pub returns-then-self-clause-refused : goal.returns-then-self-clause-refused
returns-then-self-clause-refused g c = λ ne. rw (← c.self.view_is) (apply_stopped _ c.args.command.now c.if-self.true)

pub returns-in_err-prepared-clause-refused : goal.returns-in_err-prepared-clause-refused
returns-in_err-prepared-clause-refused g c =
    let p = err_from_is_err_and c.from_residual.result c.from_residual.ensures.1 in
    rw (p.1, p.2, ← c.self.view_is) (λ ne. apply_refused _ c.args.command.now _ c.if-self.false (c.in_err-prepared.ensures.refused ne))

pub due_of-requires : goal.due_of-requires
due_of-requires g c = rw (c.deref-2.ensures.value, c.deref-3.ensures.value) (low_places _ c.self.invariant)

pub commit-reply-requires-clause-prepared : goal.commit-reply-requires-clause-prepared
commit-reply-requires-clause-prepared g c = rw c.in_ok-prepared.ensures.unchanged c.in_ok-prepared.ensures.prepared

pub send_all-requires : goal.send_all-requires
send_all-requires g c =
    let p = c.in_ok-prepared.ensures in
    let due = due_found _ c.deref-2.ensures.value c.deref-3.ensures.value c.posts.ensures c.in_ok-due.ensures.due in
    prepared_due _ c.self.invariant due c.if-self.false p.prepared (p.heard ∙ c.is_heard.ensures ∙ ap (list_any slot_hears) c.deref.ensures.value) p.command

pub invariant_of-self-2 : goal.invariant_of-self-2
invariant_of-self-2 g c =
    let p = c.in_ok-prepared.ensures in
    let due = due_found _ c.deref-2.ensures.value c.deref-3.ensures.value c.posts.ensures c.in_ok-due.ensures.due in
    let journal = c.commit-reply.ensures.journal ∙ ap (λ (js : List Command). js ++ c.in_ok-prepared.prepared.command ∷ []) p.unchanged in
    (prepared_kept _ c.self.invariant due c.if-self.false p.prepared (p.heard ∙ c.is_heard.ensures ∙ ap (list_any slot_hears) c.deref.ensures.value) p.command journal c.send_all.ensures c.commit-reply.ensures.reply).0

pub returns-clause-done : goal.returns-clause-done
returns-clause-done g c =
    let p = c.in_ok-prepared.ensures in
    let due = due_found _ c.deref-2.ensures.value c.deref-3.ensures.value c.posts.ensures c.in_ok-due.ensures.due in
    let journal = c.commit-reply.ensures.journal ∙ ap (λ (js : List Command). js ++ c.in_ok-prepared.prepared.command ∷ []) p.unchanged in
    rw (← c.self.view_is) (prepared_kept _ c.self.invariant due c.if-self.false p.prepared (p.heard ∙ c.is_heard.ensures ∙ ap (list_any slot_hears) c.deref.ensures.value) p.command journal c.send_all.ensures c.commit-reply.ensures.reply).1

pub returns-clause-journal : goal.returns-clause-journal
returns-clause-journal g c =
    let p = c.in_ok-prepared.ensures in
    rw (← c.self.view_is) (c.commit-reply.ensures.journal ∙ ap (λ (js : List Command). js ++ c.in_ok-prepared.prepared.command ∷ []) p.unchanged ∙ ap (λ (x : Command). c.self.inside.book.journal ++ x ∷ []) p.command)
