use Rattle.std.proofs.Common.{◌∙◌, sym}
use Rattle.mt_propagate.specs.World.{world_view}
use Rattle.mt_info.proofs.OtherRowLaws.{other-found}
use Rattle.mt_info.proofs.differ.is_other.Goals as goal

pub returns-clause-rows : goal.returns-clause-rows
returns-clause-rows c told m n at to =
    other-found (world_view c.args.before.now) (world_view c.args.after.now) _ _ c.in-Some.old c.in-Some-get.new m n c.is_alike.result (sym c.get.ensures ∙ c.in-Some.is) (sym c.get-2.ensures ∙ c.in-Some-get.is)
    c.is_alike.ensures told at to
