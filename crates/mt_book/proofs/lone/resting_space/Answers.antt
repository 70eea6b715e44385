use Rattle.std.proofs.Common.{sym, ap, ◌∙◌, arith}
use Rattle.std.proofs.lemmas.List.{drop_all}
use Rattle.std.specs.List.{list_all}
use Rattle.mt_book.proofs.lone.resting_space.Goals as goal

pub returns : goal.returns
returns c = sym c.mounts.invariant ∙ ap (list_all _) (drop_all c.mounts.id-index c.args.ids.now (omega (arith, c.mounts-test.false)))
