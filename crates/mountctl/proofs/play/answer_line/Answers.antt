use Rattle.std.proofs.Common.{List, ℕ, Some, sym, ap, ◌∙◌}
use Rattle.mountctl.proofs.PlayLaws.{sent_bytes}
use Rattle.mountctl.proofs.play.answer_line.Goals as goal

pub returns-in-Some-clause-answered : goal.returns-in-Some-clause-answered
returns-in-Some-clause-answered c =
    let sent = sent_bytes _ _ c.in-Some.sent _ c.in_ok-sent.ensures c.in-Some.is ∙ ap (λ (x : List ℕ). Some x) (sym c.as_slice.ensures.value) in
    rw sent c.answer_sent.ensures.answered
