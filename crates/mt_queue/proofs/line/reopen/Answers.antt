use Rattle.mt_queue.specs.Openings.{tagged}
use Rattle.mt_queue.proofs.SplitLaws.{reopens}
use Rattle.mt_queue.proofs.line.reopen.Goals as goal

pub another-requires-clause-rule : goal.another-requires-clause-rule
another-requires-clause-rule g c = reopens (tagged g.N.Opened.opening g.N.Opened.tag) g.N.Opened.capacity _ _ c.requires.view.0 c.requires.view.1 c.requires.view.2
