use Rattle.std.proofs.Common.{sym, ◌∙◌}
use Rattle.mt_client.proofs.LockedLaws.{no_lock_above}
use Rattle.mt_client.proofs.block.lock_above.Goals as goal

pub returns-else-is_above-clause-refused : goal.returns-else-is_above-clause-refused
returns-else-is_above-clause-refused c is there =
    no_lock_above c.args.last c.args.text.now c.in-Ok.locks c.in-Ok.ensures.valid c.in-Ok.ensures.locks (sym c.is_above.ensures ∙ c.if-is_above.false) there
