use Rattle.std.proofs.Common.{ap, subst, ◌∙◌}
use Rattle.mt_propagate.specs.World.{world_view}
use Rattle.mt_what_if.specs.Taken.{taken_told}
use Rattle.mt_what_if.specs.Trials.{TrialView}
use Rattle.mt_what_if.specs.Tried.{IsLineTried}
use Rattle.mt_what_if.proofs.ForetellLaws.{line_foretold}
use Rattle.mt_what_if.proofs.foretelling.foretell_line.Goals as goal

pub returns-clause-told : goal.returns-clause-told
returns-clause-told c =
    line_foretold c.args.question.now c.args.number c.args.line.now c.args.trial.now c.try_line.new.trial (world_view c.start.result.now)
    (world_view c.in_ok-before.before) (world_view c.world-2.result.now) c.in_ok-outcome.outcome c.args.text.now.items c.push_tried.new.text.items
    c.deref.result.now c.deref-2.result.now c.deref-3.result.now c.push_if_each.new.text.items c.new-changes.result.items c.in_ok-push_tried.ensures
    (c.deref.ensures.value ∙ c.in_ok-taken.ensures.text ∙ ap taken_told c.given.ensures)
    (c.deref-3.ensures.value ∙ c.in_ok-reason.ensures.reason) c.deref-2.ensures.value c.in_ok-push_if_each.ensures.text
    c.new-changes.ensures.items (c.start.ensures.world ∙ c.in_ok-outcome.ensures.start ∙ ap (λ (t : TrialView). t.start) c.begin_line.ensures)
    (c.in_ok-before.ensures.copy ∙ c.world.ensures.world) c.world-2.ensures.world
    (subst (λ (t : TrialView). IsLineTried c.args.question.now.tables.now c.args.line.now t (record { trial = c.try_line.new.trial; outcome = c.in_ok-outcome.outcome }))
    c.begin_line.ensures c.in_ok-outcome.ensures.tried)
