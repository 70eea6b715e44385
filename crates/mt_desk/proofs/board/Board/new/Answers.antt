use Rattle.std.proofs.Common.{ap, ◌∙◌}
use Rattle.mt_desk.specs.Places.{LinesView}
use Rattle.mt_desk.proofs.DeskLaws.{new_kept}
use Rattle.mt_desk.proofs.board.Board.new.Goals as goal

pub invariant_of-board : goal.invariant_of-board
invariant_of-board g c = new_kept c.lines.invariant.0 (ap (λ (v : LinesView). v.lines) c.lines.view_is ∙ c.requires) c.new.ensures
