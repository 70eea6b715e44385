use Rattle.std.proofs.Common.{rules, refl}
use Rattle.mt_client.proofs.EndingLaws.{behind_needs_none, behind_as_none}
use Rattle.mt_client.proofs.CallLaws.{fault_refused, passes_nothing, pass_unprinted}
use Rattle.mt_client.proofs.block.pass_behind.Goals as goal

pub returns-then-count-eq0-clause-passed : goal.returns-then-count-eq0-clause-passed
returns-then-count-eq0-clause-passed g c = passes_nothing g.O.Output _ _ _ c.requires.fresh (behind_as_none c.args.form c.in-Done.is c.args.count (search rules))

pub returns-else-count-eq0 : goal.returns-else-count-eq0
returns-else-count-eq0 g c = record { passed = tt; fault = pass_unprinted (fault_refused refl (behind_needs_none c.args.form c.in-Done.is c.args.count _ (search rules))) }
