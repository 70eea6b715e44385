use Rattle.std.proofs.Common.{List, ℕ, Some, Bor, ap, ◌∙◌}
use Rattle.mt_lines.specs.Reading.{known_left}
use Rattle.mountctl.proofs.PlayLaws.{served_alone}
use Rattle.mountctl.proofs.own_session.answer_sent.Goals as goal

pub returns-clause-answered : goal.returns-clause-answered
returns-clause-answered c =
    served_alone c.args.sent.now c.serve_next-end.new.writer.text.items c.into_text.result.items c.new-answer.result.text.items (known_left c.in_ok-input.input)
    (known_left c.serve_next-end.new.lines) (c.args.floor.now, c.args.session.now) (c.serve_next-end.new.place, c.serve_next-end.new.session) c.serve_next-end.result
    c.in_ok-goes_on.goes_on c.serve_next-end.ensures.served (c.in_ok-input.ensures.known ∙ ap (λ (x : Bor (List ℕ)). Some x.now) c.new.ensures) c.new-answer.ensures
    c.into_text.ensures c.in_ok-goes_on.ensures
