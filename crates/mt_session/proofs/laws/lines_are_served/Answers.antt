use Rattle.mt_session.proofs.SessionLaws.{next_served}
use Rattle.mt_session.proofs.SharedLineLaws.{next_answered}
use Rattle.mt_session.proofs.laws.lines_are_served.Goals as goal

pub returns-clause-plain : goal.returns-clause-plain
returns-clause-plain g c = next_served

pub returns-clause-shared : goal.returns-clause-shared
returns-clause-shared g c = next_answered
