use Rattle.std.proofs.Common.{◌≡◌}
use Rattle.mt_events.specs.Following.{IsRun}
use Rattle.mt_session.specs.Taking.{HasPrinted}
use Rattle.mt_session.proofs.shared_session.taken.Given as goal

-- what was taken so far is printed, and stays a run
abbrev pub invariant-posts : goal.invariant-posts
invariant-posts g l =
    HasPrinted l.initial.watcher l.printed l.watcher
    × IsRun l.watcher.half.opening l.watcher.half.taken
    × (l.printed.posts ≡ l._count)
