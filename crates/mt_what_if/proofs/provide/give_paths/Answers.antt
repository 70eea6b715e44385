use Rattle.std.proofs.lemmas.Result.{err_from_is_err_and}
use Rattle.mt_what_if.proofs.TriedLaws.{paths_more, paths_stopped}
use Rattle.mt_what_if.proofs.provide.give_paths.Goals as goal

pub returns-in_err-give_path-clause-refused : goal.returns-in_err-give_path-clause-refused
returns-in_err-give_path-clause-refused c =
    let p = err_from_is_err_and c.from_residual.result c.from_residual.ensures.1 in
    rw (p.1, p.2) (λ ne. paths_stopped c.args.trial.now c.give_path.new.trial c.args.command.now _ (c.in_err-give_path.ensures.refused ne))

pub returns-clause-done : goal.returns-clause-done
returns-clause-done c = rw (paths_more c.args.trial.now c.give_path.new.trial c.args.command.now c.in_ok-give_path.ensures.done) c.give_path-2.ensures.done

pub returns-clause-refused : goal.returns-clause-refused
returns-clause-refused c = rw (paths_more c.args.trial.now c.give_path.new.trial c.args.command.now c.in_ok-give_path.ensures.done) c.give_path-2.ensures.refused
