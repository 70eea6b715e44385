use Rattle.std.proofs.lemmas.Result.{err_from_is_err_and}
use Rattle.mt_propagate.specs.World.{world_view}
use Rattle.mt_what_if.specs.Trials.{TrialView}
use Rattle.mt_what_if.proofs.TriedLaws.{give_done, give_stopped}
use Rattle.mt_what_if.proofs.trial.Trial.give.Goals as goal

pub returns-in_err-run-clause-refused : goal.returns-in_err-run-clause-refused
returns-in_err-run-clause-refused c =
    let p = err_from_is_err_and c.from_residual.result c.from_residual.ensures.1 in
    rw (p.1, p.2) (λ ne. give_stopped c.args.self.now c.run.new.self c.args.command.now _ (c.in_err-run.ensures.refused ne))

pub returns-clause-done : goal.returns-clause-done
returns-clause-done c =
    let s : TrialView = record {
      start = world_view c.self.inside.start;
      commands = c.self.inside.commands.items;
      names = c.self.inside.names.items;
      given = c.self.inside.given.items;
      refused = c.self.inside.refused.items;
    } in
    give_done c.args.self.now c.run.new.self s c.push.new.self.items c.args.command.now c.in_ok-copy.field-0 c.in_ok-run.ensures.done c.self.view_is
    c.in_ok-copy.ensures.copy c.in_ok-push.ensures.items
