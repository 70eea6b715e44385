-- The name of each refusal is read as that refusal.
use Rattle.std.proofs.Common.{refl}
use Rattle.mt_skel.specs.declared.fault.Fault.TheVariants.{BadLine}
use Rattle.mt_protocol.specs.Laws.{NamesTellRefusals}
use Rattle.mt_protocol.specs.Refusals.{refusal_named}

-- the second line stands for all other refusals, one by one
pub refusal_read : NamesTellRefusals
unfolding refusal_named
refusal_read BadLine = refl
refusal_read refusal = refl
