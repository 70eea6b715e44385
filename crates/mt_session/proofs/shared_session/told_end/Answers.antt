use Rattle.std.proofs.Common.{◌∙◌, ap, sym, subst, List, ℕ, ◌≡◌}
use Rattle.std.specs.Prelude.{IfOk}
use Rattle.mt_events.specs.Texts.{posts_text}
use Rattle.mt_session.proofs.SharedLaws.{end_told}
use Rattle.mt_session.proofs.shared_session.told_end.Goals as goal

pub returns-clause-text : goal.returns-clause-text
returns-clause-text g c =
    subst (λ (t : List ℕ). IfOk c.told.result (λ text. text ≡ t))
    (ap posts_text c.as_slice.ensures ∙ sym (end_told c.args.desk.now.desk c.closed-posts.new.desk.desk c.args.watcher c.closed-posts.result c.closed-posts.ensures.closed)) c.told.ensures.text
