-- The headline, of every session in a thread of its own: of its watcher, behind each of its lines.
-- A word with no source is this project's rule.
--
-- Whatever the other sessions do, what a session's watcher has taken, and so all that `take` and `follow` have told of it or lost, is a prefix of what was posted
-- for the namespaces it follows since its opening, each once and in order; and applied to the opening that `watch` told, it gives each namespace's table as of
-- its last taken number.
use Rattle.std.specs.Prelude.{◌≡◌, ℕ, List, ◌++◌, Option, Some, slice_get, Ok}
use Rattle.std.specs.Option.{ForSome}
use Rattle.mt_events.specs.Posts.{PostView}
use Rattle.mt_events.specs.Following.{IsRun}
use Rattle.mt_floor.specs.declared.event.Answer.TheVariants.{Opened}
use Rattle.mt_floor.specs.Headline.{answers, posted_since, IsInOrder, TellTables}
use Rattle.mt_desk.specs.Desk.{DeskView, HasHistory}
use Rattle.mt_desk.specs.Calls.{WatcherView}
use Rattle.mt_session.specs.declared.serving.End.{End}
use mathlib.Core.List.{IsPrefix}
use Rattle.mt_desk.specs.declared.act.LogEntry.{LogEntry}
use Rattle.mt_desk.specs.Entries.{WitnessView}
use Rattle.mt_desk.specs.Held.{IsLogged}
use Rattle.mt_session.specs.SharedTurns.{SharedView}
use Rattle.mt_session.specs.SharedSession.{SharedTurn, AreTurns, ServedShared, new_session}

-- what a watcher has taken is in order and gives the tables, by the events that led to the desk after a beginning of what its session has seen of the one history
pub record FollowsInOrder (w : WatcherView) (seen : List LogEntry) : Type 0 where
  pub desk : DeskView
  pub history : HasHistory desk
  pub log : List LogEntry
  pub logged : IsLogged desk log
  pub begins : IsPrefix log seen
  -- it began at one of the events, with the opening that it has
  pub at : ℕ
  pub began : slice_get (answers desk.capacity history.events) at ≡ Some (Ok (Opened w.key w.half.opening))
  -- what it has taken is a prefix of what was posted to it since
  pub later : List PostView
  pub posted : posted_since desk.capacity history.events at w.key ≡ w.half.taken ++ later
  pub in_order : IsInOrder desk.capacity history.events at w.key w.half.opening
  pub run : IsRun w.half.opening w.half.taken
  pub tables : TellTables desk.capacity history.events w.half.opening w.half.taken

-- so it is after each line of a session that has a watcher then
abbrev pub SharedSessionsFollow : Type 0
SharedSessionsFollow =
    (before later sent written : Option (List ℕ)) (by : End) (v v' : WitnessView) (s : ServedShared before later sent written by v v') (front back : List SharedTurn)
    → s.turns ≡ front ++ back → (mid : SharedView) × AreTurns (new_session v) front mid × AreTurns mid back s.state × ForSome mid.own (λ (w : WatcherView). FollowsInOrder w v'.seen)
