use Rattle.std.proofs.Common.{◌≡◌, ◌∙◌, List, Option, Some, refl, sym, ap, subst}
use Rattle.mt_events.specs.Posts.{PostView}
use Rattle.mt_desk.specs.Calls.{WatcherView}
use Rattle.mt_session.specs.SharedTurns.{SharedView, with_taken_posts, KeepsWatcher}
use Rattle.mt_session.proofs.SharedLaws.{lost_posts}
use Rattle.mt_session.proofs.shared_session.SharedSession.pops.Goals as goal

-- a watcher that has taken posts goes on
taken_keeps : (own own' : Option WatcherView) (w w' : WatcherView) (posts : List PostView) → own ≡ Some w → own' ≡ Some w' → w' ≡ with_taken_posts w posts → KeepsWatcher own own'
taken_keeps own own' w w' posts is is' taken = subst (λ (x : Option WatcherView). KeepsWatcher x own') (sym is) (w', is', (posts, w.half.told, taken))

pub returns-clause-lost : goal.returns-clause-lost
returns-clause-lost g c = λ failed.
    lost_posts c.args.self.now.own (Some c.taken.new.watcher) c.in-Some.watcher c.taken.new.watcher c.taken.ensures.taken.0 c.args.most (ap (λ (v : SharedView). v.own) (sym c.self.view_is) ∙ c.in-Some.is) refl c.taken.ensures.taken.1 c.taken.ensures.taken.2 c.taken.ensures.run

pub returns-clause-watcher : goal.returns-clause-watcher
returns-clause-watcher g c =
    taken_keeps c.args.self.now.own (Some c.taken.new.watcher) c.in-Some.watcher c.taken.new.watcher c.taken.ensures.taken.0 (ap (λ (v : SharedView). v.own) (sym c.self.view_is) ∙ c.in-Some.is) refl c.taken.ensures.taken.1
