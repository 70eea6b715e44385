use Rattle.mt_protocol.proofs.NameLaws.{refusal_read}
use Rattle.mt_protocol.proofs.laws.names_tell_refusals.Goals as goal

pub returns : goal.returns
returns c = refusal_read
