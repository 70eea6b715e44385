use Rattle.mt_floor.proofs.KeptLaws.{stop_done}
use Rattle.mt_floor.proofs.floor.Floor.stop.Goals as goal

pub invariant_of-self : goal.invariant_of-self
invariant_of-self c = (stop_done c.self.invariant c.self.view_is c.requires.idle c.end_all.ensures).kept

pub returns : goal.returns
returns c = (stop_done c.self.invariant c.self.view_is c.requires.idle c.end_all.ensures).step
