use Rattle.std.proofs.Common.{Some}
use Rattle.mt_world.proofs.KeptLaws.{set_at}
use Rattle.mt_world.proofs.grown.Kept.leave.Goals as goal

pub returns-clause-set : goal.returns-clause-set
returns-clause-set c = set_at c.args.self.now.left.items c.args.number (Some c.args.why) c.requires
