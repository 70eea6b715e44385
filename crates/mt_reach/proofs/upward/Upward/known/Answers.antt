use Rattle.std.proofs.Common.{◌∙◌, sym}
use Rattle.mt_reach.proofs.FoundLaws.{found_answers}
use Rattle.mt_reach.proofs.upward.Upward.known.Goals as goal

pub returns-clause-known : goal.returns-clause-known
returns-clause-known c = found_answers _ _ c.self.inside.found c.args.number _ c.self.invariant c.self.view_is (sym c.get.ensures.value ∙ sym c.copied.ensures)
