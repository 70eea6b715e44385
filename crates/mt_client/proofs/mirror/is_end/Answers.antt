use Rattle.std.proofs.Common.{rules}
use Rattle.mt_client.proofs.OpeningLaws.{number_told}
use Rattle.mt_client.proofs.mirror.is_end.Goals as goal

pub returns-in-Some : goal.returns-in-Some
returns-in-Some c = number_told c.in-Some.number c.args.count c.args.line.now c.in-Some.ensures.small (search rules) c.in-Some.ensures.count
