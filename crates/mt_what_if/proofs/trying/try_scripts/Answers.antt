use Rattle.std.proofs.lemmas.Result.{err_from_is_err_and}
use Rattle.mt_what_if.proofs.TriedLaws.{scripts_more, scripts_stopped}
use Rattle.mt_what_if.proofs.trying.try_scripts.Goals as goal

pub returns-in_err-try_script-clause-refused : goal.returns-in_err-try_script-clause-refused
returns-in_err-try_script-clause-refused c =
    let p = err_from_is_err_and c.from_residual.result c.from_residual.ensures.1 in
    rw (p.1, p.2) (λ ne. scripts_stopped c.args.trial.now c.try_script.new.trial c.args.operation.now c.args.script.now _ (c.in_err-try_script.ensures.refused ne))

pub returns-clause-done : goal.returns-clause-done
returns-clause-done c = rw (scripts_more c.args.trial.now c.try_script.new.trial c.args.operation.now c.args.script.now c.in_ok-try_script.ensures.done) c.try_later.ensures.done

pub returns-clause-refused : goal.returns-clause-refused
returns-clause-refused c = rw (scripts_more c.args.trial.now c.try_script.new.trial c.args.operation.now c.args.script.now c.in_ok-try_script.ensures.done) c.try_later.ensures.refused
