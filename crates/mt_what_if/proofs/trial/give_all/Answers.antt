use Rattle.std.proofs.Common.{arith, ◌∙◌}
use Rattle.std.proofs.lemmas.Result.{err_from_is_err_and}
use Rattle.mt_what_if.proofs.TriedLaws.{all_more, all_stopped}
use Rattle.mt_what_if.proofs.trial.give_all.Goals as goal

pub returns-in_err-give-clause-refused : goal.returns-in_err-give-clause-refused
returns-in_err-give-clause-refused c =
    let p = err_from_is_err_and c.from_residual.result c.from_residual.ensures.1 in
    rw (p.1, p.2) (λ ne. all_stopped c.args.trial.now c.commands.trial c.give.new.self c.args.commands.now c.commands.command-index c.command-item.result _
    (omega (arith, c.commands-test.true)) c.command-item.is (c.in_err-give.ensures.refused ne) c.commands.invariant.given)

pub commands-preserved : goal.commands-preserved
commands-preserved c = record {
  start = c.in_ok-give.ensures.start ∙ c.commands.invariant.start;
  given =
      all_more c.args.trial.now c.commands.trial c.give.new.self c.args.commands.now c.commands.command-index c.command-item.result
      (omega (arith, c.commands-test.true)) c.command-item.is c.in_ok-give.ensures.done c.commands.invariant.given;
}
