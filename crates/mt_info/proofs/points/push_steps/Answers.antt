use Rattle.std.proofs.Common.{◌∷◌, refl, arith}
use Rattle.std.specs.List.{flat_map}
use Rattle.std.proofs.lemmas.Grind.{common_steps}
use Rattle.mt_skel.specs.Escapes.{escaped}
use Rattle.mt_info.specs.Steps.{is_step, step_names}
use Rattle.mt_info.proofs.FrontLaws.{front_same, front_through, passed_all, passes_at}
use Rattle.mt_info.proofs.points.push_steps.Goals as goal

pub steps-preserved : goal.steps-preserved
steps-preserved c = record {
  text = grind (arith, common_steps);
  kept = front_through _ _ _ c.steps.invariant.kept c.push_step.ensures.kept;
}

pub steps-init : goal.steps-init
steps-init c = record {
  text = refl;
  kept = front_same _ _ refl;
}

pub push_step-requires : goal.push_step-requires
push_step-requires c = passes_at (is_step c.args.skel.now) c.args.way.now c.steps.step-index _ c.steps-test.true c.requires

pub returns-in_err-push_step-clause-kept : goal.returns-in_err-push_step-clause-kept
returns-in_err-push_step-clause-kept c = front_through _ _ _ c.steps.invariant.kept c.push_step.ensures.kept

pub returns-clause-text : goal.returns-clause-text
returns-clause-text c = passed_all (λ s. flat_map (λ n. 47 ∷ escaped n) (flat_map (step_names c.args.skel.now) s)) c.args.way.now c.steps.step-index _ _ refl (omega (arith, c.steps-test.false)) c.steps.invariant.text

pub returns-clause-kept : goal.returns-clause-kept
returns-clause-kept c = c.steps.invariant.kept
