use Rattle.mt_floor.proofs.OpenedLaws.{keys_apart}
use Rattle.mt_floor.proofs.MeetingLaws.{told}
use Rattle.mt_floor.proofs.RunLaws.{run_state, run_told}
use Rattle.mt_floor.proofs.laws.answers_tell.Goals as goal

pub returns-clause-keys : goal.returns-clause-keys
returns-clause-keys c = keys_apart

pub returns-clause-meetings : goal.returns-clause-meetings
returns-clause-meetings c = told

pub returns-clause-joined : goal.returns-clause-joined
returns-clause-joined c = record { state = run_state; told = run_told }
