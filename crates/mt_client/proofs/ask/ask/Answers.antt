use Rattle.std.proofs.KnownBytes.{Keeps-refl}
use Rattle.mt_client.proofs.CallLaws.{handed_on, no_memory≢output}
use Rattle.mt_client.proofs.RelayLaws.{unprinted}
use Rattle.mt_client.proofs.ask.ask.Goals as goal

pub returns-in_err-line-clause-broken : goal.returns-in_err-line-clause-broken
returns-in_err-line-clause-broken g c = handed_on _ _ _ c.from_residual.ensures.1 (unprinted _ _ _ _ no_memory≢output (Keeps-refl _))

pub returns-clause-connection : goal.returns-clause-connection
returns-clause-connection g c is u v = rw (c.as_slice.ensures.value, c.in_ok-line.ensures) at (c.ask_line.ensures.connection is u v)

pub returns-clause-asked : goal.returns-clause-asked
returns-clause-asked g c = rw (c.as_slice.ensures.value, c.in_ok-line.ensures) at c.ask_line.ensures.asked
