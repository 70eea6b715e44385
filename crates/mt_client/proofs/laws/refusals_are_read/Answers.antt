use Rattle.mt_client.proofs.RefusalLaws.{refusals_read}
use Rattle.mt_client.proofs.laws.refusals_are_read.Goals as goal

pub returns : goal.returns
returns c = refusals_read
