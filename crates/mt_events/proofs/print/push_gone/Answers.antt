use Rattle.std.proofs.Common.{◌++◌, ◌∙◌, sym, ap, append-nil, arith}
use Rattle.std.specs.List.{flat_map}
use Rattle.std.proofs.lemmas.List.{drop_all}
use Rattle.std.proofs.lemmas.Grind.{common_steps}
use Rattle.mt_info.proofs.FrontLaws.{front_through}
use Rattle.mt_events.specs.Posts.{ended, gone_line}
use Rattle.mt_events.proofs.print.push_gone.Goals as goal

pub gone-preserved : goal.gone-preserved
gone-preserved c = record {
  text = grind (arith, common_steps);
  kept = front_through _ _ _ c.gone.invariant.kept c.push_gone_line.ensures.kept;
}

pub returns-in_err-push_gone_line-clause-kept : goal.returns-in_err-push_gone_line-clause-kept
returns-in_err-push_gone_line-clause-kept c = front_through _ _ _ c.gone.invariant.kept c.push_gone_line.ensures.kept

pub returns-clause-text : goal.returns-clause-text
returns-clause-text c =
    sym (append-nil _) ∙ ap (λ t. c.gone.text.items ++ flat_map (λ x. ended (gone_line x)) t) (sym (drop_all c.gone.id-index c.args.gone.now (omega (arith, c.gone-test.false)))) ∙ c.gone.invariant.text

pub returns-clause-kept : goal.returns-clause-kept
returns-clause-kept c = c.gone.invariant.kept
