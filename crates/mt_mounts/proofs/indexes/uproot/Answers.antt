use Rattle.std.proofs.Common.{cond, Some, None, is_none, ap, sym, ◌∙◌}
use Rattle.mt_lists.proofs.RowLaws.{row-unnumbered, without-absent}
use Rattle.mt_mounts.proofs.indexes.uproot.Goals as goal

pub returns-in-Some-clause-rows : goal.returns-in-Some-clause-rows
returns-in-Some-clause-rows c =
    λ is. sym (without-absent c.args.mount.id c.args.roots.now.rows (row-unnumbered c.args.mount.id c.args.roots.now.rows (is ∙ ap (λ o. cond (is_none o) (Some c.args.mount.space) None) c.in-Some.is)))
