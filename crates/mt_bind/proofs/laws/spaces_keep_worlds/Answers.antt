use Rattle.mt_bind.proofs.NamespaceCopyLaws.{copy-kept}
use Rattle.mt_bind.proofs.GoneLaws.{end-kept}
use Rattle.mt_bind.proofs.laws.spaces_keep_worlds.Goals as goal

pub returns : goal.returns
returns c = record { copied = copy-kept; ended = end-kept }
