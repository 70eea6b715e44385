use Rattle.std.proofs.Common.{◌≡◌, ◌∙◌, true, ap, sym, subst, refl, Option, None, Ok}
use Rattle.std.specs.Option.{ForSome}
use Rattle.mt_session.specs.declared.serving.End.{End}
use Rattle.mt_session.specs.Answering.{ends_whole}
use Rattle.mt_session.specs.Requests.{SessionState, session_state, answer_to, state_to, IsUndone}
use Rattle.mt_session.proofs.EndLaws.{ends_are_whole}
use Rattle.mt_session.proofs.SessionLaws.{at_rest, answered_ok, answered_none, answered_err}
use Rattle.mt_session.proofs.serving.answer_line.Goals as goal

pub returns-in-Err-clause-answered : goal.returns-in-Err-clause-answered
returns-in-Err-clause-answered g c = (
  c.refusal.result,
  None,
  answered_err (session_state c.args.floor.now c.args.session.now) c.args.line.now c.refusal.result c.in-Err.fault None c.in-Err.ensures.read c.refusal.ensures refl,
  λ e is. cc,
  c.answer_with.ensures.sent,
)

pub returns-in-Ok-turn-clause-answered : goal.returns-in-Ok-turn-clause-answered
returns-in-Ok-turn-clause-answered g c =
    let rest = at_rest c.args.floor.now c.args.session.now c.requires.idle in
    let e = c.in-Ok-turn.ensures in (
      c.in-Ok-turn.text,
      c.end_of.result,
      answered_ok (session_state c.args.floor.now c.args.session.now) (session_state c.turn.new.floor c.turn.new.self) c.args.line.now c.in-Ok-turn.text c.in-Ok.request c.end_of.result c.in-Ok.ensures.read
          (e.text ∙ ap (λ (s : SessionState). answer_to s c.in-Ok.request) rest) (e.state ∙ ap (λ (s : SessionState). state_to s c.in-Ok.request) rest) c.end_of.ensures,
      subst (λ (o : Option End). ForSome o (λ (e : End). ends_whole e ≡ true)) (sym c.end_of.ensures) (ends_are_whole (Ok c.in-Ok.request)),
      c.answer_with-in-Ok-turn.ensures.sent,
    )

pub returns-clause-answered : goal.returns-clause-answered
returns-clause-answered g c =
    let rest = at_rest c.args.floor.now c.args.session.now c.requires.idle in
    let e = c.in-Err-turn.ensures in
    let r = c.refusal-in-Err-turn in (
      r.result,
      None,
      answered_none (session_state c.args.floor.now c.args.session.now) (session_state c.turn.new.floor c.turn.new.self) c.args.line.now r.result c.in-Ok.request None c.in-Ok.ensures.read
          (rw e.memory at r.ensures) refl (subst (λ (s : SessionState). IsUndone s c.in-Ok.request (session_state c.turn.new.floor c.turn.new.self)) rest e.undone),
      λ e is. cc,
      c.answer_with-in-Err-turn.ensures.sent,
    )
