use Rattle.std.proofs.lemmas.Result.{err_from_is_err_and}
use Rattle.mt_what_if.proofs.TriedLaws.{command_more, command_stopped}
use Rattle.mt_what_if.proofs.trying.try_command.Goals as goal

pub returns-in_err-give_needed-clause-refused : goal.returns-in_err-give_needed-clause-refused
returns-in_err-give_needed-clause-refused c =
    let p = err_from_is_err_and c.from_residual.result c.from_residual.ensures.1 in
    rw (p.1, p.2) (λ ne. command_stopped c.args.trial.now c.give_needed.new.trial c.args.command.now _ (c.in_err-give_needed.ensures.refused ne))

pub returns-clause-done : goal.returns-clause-done
returns-clause-done c = rw (command_more c.args.trial.now c.give_needed.new.trial c.args.command.now c.in_ok-give_needed.ensures.done) c.run.ensures.done

pub returns-clause-refused : goal.returns-clause-refused
returns-clause-refused c = rw (command_more c.args.trial.now c.give_needed.new.trial c.args.command.now c.in_ok-give_needed.ensures.done) c.run.ensures.refused
