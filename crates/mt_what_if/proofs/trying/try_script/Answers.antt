use Rattle.std.proofs.Common.{◌∙◌}
use Rattle.std.proofs.lemmas.Result.{err_from_is_err_and}
use Rattle.mt_what_if.proofs.TriedLaws.{lines_more, script_stopped}
use Rattle.mt_what_if.proofs.trying.try_script.Goals as goal

pub lines-preserved : goal.lines-preserved
lines-preserved c = record {
  start = c.in_ok-try_session_line.ensures.start ∙ c.lines.invariant.start;
  run = lines_more c.lines.trial c.try_session_line.new.trial c.lines.lines c.next.new.self c.in-Some.line.now c.in-Some.ensures.steps c.in_ok-try_session_line.ensures.done
      ∙ c.lines.invariant.run;
}

pub returns-in_err-try_session_line-clause-refused : goal.returns-in_err-try_session_line-clause-refused
returns-in_err-try_session_line-clause-refused c =
    let p = err_from_is_err_and c.from_residual.result c.from_residual.ensures.1 in
    rw (p.1, p.2) (λ ne. script_stopped c.args.trial.now c.lines.trial c.try_session_line.new.trial c.args.script.now c.new-lines.result c.lines.lines c.next.new.self
    c.in-Some.line.now _ c.new-lines.ensures c.lines.invariant.run c.in-Some.ensures.steps (c.in_err-try_session_line.ensures.refused ne))
