use Rattle.mt_strace.proofs.DescriptorLaws.{descriptors_read}
use Rattle.mt_strace.proofs.laws.descriptors_are_read.Goals as goal

pub returns : goal.returns
returns c = descriptors_read
