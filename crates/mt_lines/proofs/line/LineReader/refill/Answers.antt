use Rattle.std.proofs.Common.{[]}
use Rattle.std.proofs.KnownBytes.{Consumes-nil}
use Rattle.mt_lines.proofs.StreamLaws.{kept_consumed}
use Rattle.mt_lines.proofs.line.LineReader.refill.Goals as goal

pub returns-in-Ok-clause-known : goal.returns-in-Ok-clause-known
returns-in-Ok-clause-known g c = kept_consumed _ _ _ _ c.trying.invariant.known c.fill.ensures.known

pub returns-in-Err-Failed-clause-known : goal.returns-in-Err-Failed-clause-known
returns-in-Err-Failed-clause-known g c = kept_consumed _ _ _ _ c.trying.invariant.known c.fill.ensures.known

pub returns-clause-known : goal.returns-clause-known
returns-clause-known g c = rw c.trying.invariant.empty (kept_consumed _ _ _ [] c.trying.invariant.known (Consumes-nil _))
