use Rattle.mt_strace.proofs.CallLaws.{calls_read}
use Rattle.mt_strace.proofs.laws.calls_are_read.Goals as goal

pub returns : goal.returns
returns c = calls_read
