use Rattle.mt_floor.proofs.StandingLaws.{begins_well, stays, lists_short}
use Rattle.mt_floor.proofs.laws.floors_stay.Goals as goal

pub returns-clause-floors : goal.returns-clause-floors
returns-clause-floors c = record { begins = begins_well; stays = stays }

pub returns-clause-short : goal.returns-clause-short
returns-clause-short c = lists_short
