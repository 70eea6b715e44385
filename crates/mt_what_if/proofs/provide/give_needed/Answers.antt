use Rattle.std.proofs.lemmas.Result.{err_from_is_err_and}
use Rattle.mt_what_if.proofs.TriedLaws.{needed_more, needed_stopped}
use Rattle.mt_what_if.proofs.provide.give_needed.Goals as goal

pub returns-in_err-give_mounted-clause-refused : goal.returns-in_err-give_mounted-clause-refused
returns-in_err-give_mounted-clause-refused c =
    let p = err_from_is_err_and c.from_residual.result c.from_residual.ensures.1 in
    rw (p.1, p.2) (λ ne. needed_stopped c.args.trial.now c.give_mounted.new.trial c.args.command.now _ (c.in_err-give_mounted.ensures.refused ne))

pub returns-clause-done : goal.returns-clause-done
returns-clause-done c = rw (needed_more c.args.trial.now c.give_mounted.new.trial c.args.command.now c.in_ok-give_mounted.ensures.done) c.give_paths.ensures.done

pub returns-clause-refused : goal.returns-clause-refused
returns-clause-refused c = rw (needed_more c.args.trial.now c.give_mounted.new.trial c.args.command.now c.in_ok-give_mounted.ensures.done) c.give_paths.ensures.refused
