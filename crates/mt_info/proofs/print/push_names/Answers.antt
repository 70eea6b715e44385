use Rattle.std.proofs.Common.{arith}
use Rattle.std.proofs.lemmas.Grind.{common_steps}
use Rattle.mt_info.proofs.FrontLaws.{front_through}
use Rattle.mt_info.proofs.print.push_names.Goals as goal

pub loop-name-preserved : goal.loop-name-preserved
loop-name-preserved c = record {
  text = grind (arith, common_steps);
  kept = front_through _ _ _ c.loop-name.invariant.kept (front_through _ _ _ (_, c.in_ok-extend_from_slice.ensures.items) c.push_escaped.ensures.kept);
}

pub returns-in_err-push_escaped-clause-kept : goal.returns-in_err-push_escaped-clause-kept
returns-in_err-push_escaped-clause-kept c = front_through _ _ _ c.loop-name.invariant.kept (front_through _ _ _ (_, c.in_ok-extend_from_slice.ensures.items) c.push_escaped.ensures.kept)
