use Rattle.std.proofs.Common.{ap}
use Rattle.mt_desk.specs.Desk.{DeskView}
use Rattle.mt_desk.proofs.DeskLaws.{place_is, closed_kept}
use Rattle.mt_desk.proofs.FollowLaws.{scheduled_by}
use Rattle.mt_desk.proofs.board.Board.close.Goals as goal

pub close_at-posts-requires : goal.close_at-posts-requires
close_at-posts-requires g c = place_is c.self.invariant.places c.watcher.invariant

pub invariant_of-self : goal.invariant_of-self
invariant_of-self g c = rw c.drop_place.ensures.room (closed_kept _ c.self.invariant c.watcher.invariant c.close_at-posts.ensures c.drop_place.ensures.items).0

pub returns-clause-closed : goal.returns-clause-closed
returns-clause-closed g c = rw (← c.self.view_is, ← c.watcher.view_is) (closed_kept _ c.self.invariant c.watcher.invariant c.close_at-posts.ensures c.drop_place.ensures.items).1

pub returns-clause-headline : goal.returns-clause-headline
returns-clause-headline g c = scheduled_by _ _ _ (rw (← c.self.view_is) c.self.invariant.desk.history) (ap (λ (d : DeskView). d.capacity) c.self.view_is) (returns-clause-closed g c)
