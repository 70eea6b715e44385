use Rattle.std.proofs.lemmas.Result.{on_ok_weaker}
use Rattle.mt_propagate.specs.World.{world_view}
use Rattle.mt_what_if.specs.Trials.{TrialView}
use Rattle.mt_what_if.proofs.TrialLaws.{tried_on, attempt_done, attempt_refused}
use Rattle.mt_what_if.proofs.trial.Trial.run.Goals as goal

pub invariant_of-self-in-Ok : goal.invariant_of-self-in-Ok
invariant_of-self-in-Ok c =
    tried_on (world_view c.self.inside.start) (world_view c.self.inside.world) (world_view c.try_step.new.world) c.self.inside.commands.items c.push.new.self.items
    c.args.command.now c.in_ok-copy.copy c.in-Ok._reply c.self.invariant c.in-Ok.ensures.done c.try_step.ensures.kept c.in_ok-copy.ensures.copy c.in_ok-push.ensures.items

pub returns-in-Ok-clause-done : goal.returns-in-Ok-clause-done
returns-in-Ok-clause-done c =
    let s : TrialView = record {
      start = world_view c.self.inside.start;
      commands = c.self.inside.commands.items;
      names = c.self.inside.names.items;
      given = c.self.inside.given.items;
      refused = c.self.inside.refused.items;
    } in
    on_ok_weaker c.push_made_name.result
    (attempt_done c.args.self.now s (world_view c.self.inside.world) (world_view c.try_step.new.world) c.push.new.self.items c.push_made_name.new.names.items
    c.args.command.now c.in_ok-copy.copy c.in-Ok._reply c.self.view_is c.self.invariant.leads c.in-Ok.ensures.done c.in_ok-copy.ensures.copy c.in_ok-push.ensures.items)
    c.push_made_name.ensures.names

pub returns-in_ok-push-in-Err-clause-refused : goal.returns-in_ok-push-in-Err-clause-refused
returns-in_ok-push-in-Err-clause-refused c =
    let s : TrialView = record {
      start = world_view c.self.inside.start;
      commands = c.self.inside.commands.items;
      names = c.self.inside.names.items;
      given = c.self.inside.given.items;
      refused = c.self.inside.refused.items;
    } in
    λ ne. attempt_refused c.args.self.now s (world_view c.self.inside.world) c.take_back.new.commands.items c.push-in-Err.new.self.items c.args.command.now
    c.in_ok-copy-in-Err.field-0 c.in-Err.fault c.self.view_is c.self.invariant.leads (c.in-Err.ensures.refused ne)
    (c.take_back.ensures c.self.inside.commands.items c.in_ok-copy.copy c.in_ok-push.ensures.items) c.in_ok-copy-in-Err.ensures.copy
    c.in_ok-push-in-Err.ensures.items
