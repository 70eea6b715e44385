use Rattle.mt_floor.proofs.HeadLaws.{in_order}
use Rattle.mt_floor.proofs.TableLaws.{rebuild}
use Rattle.mt_floor.proofs.GivenLaws.{given_in_order}
use Rattle.mt_floor.proofs.laws.watchers_follow.Goals as goal

pub returns-clause-order : goal.returns-clause-order
returns-clause-order c = in_order

pub returns-clause-tables : goal.returns-clause-tables
returns-clause-tables c = rebuild

pub returns-clause-given : goal.returns-clause-given
returns-clause-given c = given_in_order
