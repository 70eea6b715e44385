use Rattle.std.proofs.Common.{ap}
use Rattle.mt_desk.specs.Desk.{DeskView}
use Rattle.mt_desk.proofs.DeskLaws.{place_is, met_kept}
use Rattle.mt_desk.proofs.FollowLaws.{scheduled_by}
use Rattle.mt_desk.proofs.board.Board.meet.Goals as goal

pub meet_at-meeting-requires : goal.meet_at-meeting-requires
meet_at-meeting-requires g c = place_is c.self.invariant.places c.watcher.invariant

pub invariant_of-self : goal.invariant_of-self
invariant_of-self g c = (met_kept _ c.self.invariant c.watcher.invariant c.meet_at-meeting.ensures).0

pub returns-clause-met : goal.returns-clause-met
returns-clause-met g c = rw (← c.self.view_is, ← c.watcher.view_is) (met_kept _ c.self.invariant c.watcher.invariant c.meet_at-meeting.ensures).1

pub returns-clause-headline : goal.returns-clause-headline
returns-clause-headline g c = scheduled_by _ _ _ (rw (← c.self.view_is) c.self.invariant.desk.history) (ap (λ (d : DeskView). d.capacity) c.self.view_is) (returns-clause-met g c)
