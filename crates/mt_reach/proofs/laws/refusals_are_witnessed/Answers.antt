use Rattle.mt_reach.proofs.PlaceLaws.{off_root_witnessed, root_place_witnessed, outside_witnessed}
use Rattle.mt_reach.proofs.WitnessLaws.{busy_witnessed, shared_witnessed, unbindable_witnessed, into_witnessed}
use Rattle.mt_reach.proofs.laws.refusals_are_witnessed.Goals as goal

pub returns-clause-busy : goal.returns-clause-busy
returns-clause-busy c = busy_witnessed

pub returns-clause-shared : goal.returns-clause-shared
returns-clause-shared c = shared_witnessed

pub returns-clause-unbindable : goal.returns-clause-unbindable
returns-clause-unbindable c = unbindable_witnessed

pub returns-clause-into : goal.returns-clause-into
returns-clause-into c = into_witnessed

pub returns-clause-off : goal.returns-clause-off
returns-clause-off c w p s h l = off_root_witnessed w s h p l

pub returns-clause-place : goal.returns-clause-place
returns-clause-place c w p s h l = root_place_witnessed w s h p l

pub returns-clause-outside : goal.returns-clause-outside
returns-clause-outside c = outside_witnessed
