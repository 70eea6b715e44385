use Rattle.std.proofs.Common.{◌∙◌, ap, sym}
use Rattle.mt_desk.specs.Held.{HeldView}
use Rattle.mt_session.specs.Answers.{query_text}
use Rattle.mt_session.specs.Requests.{answer_to}
use Rattle.mt_session.specs.SharedTurns.{found_state}
use Rattle.mt_session.proofs.SharedLaws.{told_as, seen_journal, seen_replied}
use Rattle.mt_session.proofs.shared_session.SharedSession.locked.Goals as goal

pub returns-in-Run-clause-text : goal.returns-in-Run-clause-text
unfolding answer_to
returns-in-Run-clause-text g c =
    told_as (found_state c.args.desk.now.desk c.args.self.now.own) c.args.request.now _ _ _ c.in-Run.is (sym (seen_replied c.args.desk.now.desk c.args.self.now.own c.in-Run.command)) (rw c.look.ensures.desk at c.run.ensures.text)

pub returns-in-Ask-clause-text : goal.returns-in-Ask-clause-text
unfolding answer_to
returns-in-Ask-clause-text g c =
    told_as (found_state c.args.desk.now.desk c.args.self.now.own) c.args.request.now _ _ _ c.in-Ask.is
    (ap (λ js. query_text js c.in-Ask.query) (c.book.ensures.journal ∙ ap (λ (v : HeldView). v.desk.journal) c.look.ensures.desk ∙ sym (seen_journal c.args.desk.now.desk c.args.self.now.own))) c.asked.ensures.ok
