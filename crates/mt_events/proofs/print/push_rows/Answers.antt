use Rattle.std.proofs.Common.{◌++◌, ◌∙◌, sym, ap, append-nil, arith}
use Rattle.std.specs.List.{flat_map}
use Rattle.std.proofs.lemmas.List.{drop_all}
use Rattle.std.proofs.lemmas.Grind.{common_steps}
use Rattle.mt_info.proofs.FrontLaws.{front_through}
use Rattle.mt_events.specs.Posts.{ended, row_line}
use Rattle.mt_events.proofs.print.push_rows.Goals as goal

pub rows-preserved : goal.rows-preserved
rows-preserved c = record {
  text = grind (arith, common_steps);
  kept = front_through _ _ _ c.rows.invariant.kept c.push_row_line.ensures.kept;
}

pub returns-in_err-push_row_line-clause-kept : goal.returns-in_err-push_row_line-clause-kept
returns-in_err-push_row_line-clause-kept c = front_through _ _ _ c.rows.invariant.kept c.push_row_line.ensures.kept

pub returns-clause-text : goal.returns-clause-text
returns-clause-text c =
    sym (append-nil _) ∙ ap (λ t. c.rows.text.items ++ flat_map (λ x. ended (row_line x)) t) (sym (drop_all c.rows.row-index c.args.rows.now (omega (arith, c.rows-test.false)))) ∙ c.rows.invariant.text

pub returns-clause-kept : goal.returns-clause-kept
returns-clause-kept c = c.rows.invariant.kept
