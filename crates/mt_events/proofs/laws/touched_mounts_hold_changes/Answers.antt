use Rattle.mt_events.proofs.HeldLaws.{rows_held}
use Rattle.mt_events.proofs.laws.touched_mounts_hold_changes.Goals as goal

pub returns : goal.returns
returns c = rows_held
