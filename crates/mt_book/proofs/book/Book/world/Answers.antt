use Rattle.std.proofs.Common.{◌≡◌, ◌∙◌, ap, subst, sym}
use Rattle.mt_propagate.specs.World.{world_view}
use Rattle.mt_propagate.specs.declared.world.World.{World}
use Rattle.mt_propagate.specs.WellFormed.{IsWellFormed}
use Rattle.mt_book.specs.Step.{after}
use Rattle.mt_book.specs.Book.{BookView}
use Rattle.mt_book.proofs.HistoryLaws.{after_good}
use Rattle.mt_book.proofs.book.Book.world.Goals as goal

pub returns-clause-world : goal.returns-clause-world
returns-clause-world c =
    subst (λ (b : BookView). world_view c.world.result.now ≡ after b.journal) c.self.view_is (ap (λ (w : World). world_view w) c.world.ensures ∙ c.self.invariant.world)

pub returns-clause-well_formed : goal.returns-clause-well_formed
returns-clause-well_formed c =
    subst (λ (w : World). IsWellFormed (world_view w)) (sym c.world.ensures)
    (subst IsWellFormed (sym c.self.invariant.world) (after_good c.self.inside.journal.items).formed)
