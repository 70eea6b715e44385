use Rattle.mt_desk.proofs.DeskLaws.{stopped_kept}
use Rattle.mt_desk.proofs.board.Board.stop.Goals as goal

pub invariant_of-self : goal.invariant_of-self
invariant_of-self g c = (stopped_kept _ c.self.invariant c.end_all.ensures).0

pub returns-clause-floor : goal.returns-clause-floor
returns-clause-floor g c = rw (← c.self.view_is) (stopped_kept _ c.self.invariant c.end_all.ensures).1

pub returns-clause-desk : goal.returns-clause-desk
returns-clause-desk g c = rw (← c.self.view_is) (stopped_kept _ c.self.invariant c.end_all.ensures).2
