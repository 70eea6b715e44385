-- In the end the watcher of a session in a thread of its own is left, so that what it has taken is in order.
use Rattle.std.proofs.Common.{◌≡◌, List, ◌∷◌, [], ◌++◌, Option, Some, None, subst, ap, ◌∙◌, append_assoc}
use mathlib.Core.List.{IsPrefix}
use Rattle.mt_events.specs.Posts.{PostView}
use Rattle.mt_desk.specs.declared.act.LogEntry.{LogEntry}
use Rattle.mt_floor.specs.Headline.{posted_since}
use Rattle.mt_floor.proofs.FollowLaws.{told_in_order, told_tables}
use Rattle.mt_desk.specs.Desk.{DeskView}
use Rattle.mt_desk.specs.Calls.{WatcherView, IsClosed}
use Rattle.mt_desk.specs.Headline.{HasClosed}
use Rattle.mt_desk.specs.Held.{IsLogged}
use Rattle.mt_session.specs.Session.{request_of_line}
use Rattle.mt_session.specs.SharedTurns.{SharedView}
use Rattle.mt_session.specs.SharedSession.{new_session, WasLeft, SharedTurn, AreTurns}
use Rattle.mt_session.specs.SharedServing.{IsKeptOrLeft}
use Rattle.mt_session.specs.SharedHeadline.{FollowsInOrder, SharedSessionsFollow}
use Rattle.mt_session.proofs.SightLaws.{prefix_trans}
use Rattle.mt_session.proofs.WatcherLaws.{goes_none, goes_then, turn_keeps, turns_split}
use Rattle.mt_session.proofs.HistoryLaws.{turns_act, ends_act}

left_then : (w mid : Option WatcherView) (seen v : List LogEntry) → IsKeptOrLeft w mid seen → IsPrefix seen v → WasLeft mid v → WasLeft w v
left_then None mid seen v k begins l = tt
left_then (Some w) None seen v k begins l = (w, seen, goes_none w, k, begins)
left_then (Some w) (Some u) seen v k begins l = (l.0, l.1, goes_then w u l.0 k l.2, l.3, l.4)

turns_left : (turns : List SharedTurn) (s s' : SharedView) (v : List LogEntry) → AreTurns s turns s' → IsPrefix s'.sight.seen v → WasLeft s'.own v → WasLeft s.own v
turns_left [] s s' v t begins l = subst (λ (x : SharedView). WasLeft x.own v) t l
turns_left (x ∷ turns) s s' v t begins l =
    let rises : IsPrefix t.0.sight.seen s'.sight.seen = (turns_act turns t.0 s' t.2).2.rises in
    left_then s.own t.0.own t.0.sight.seen v (turn_keeps s (request_of_line x.line) x.text t.0 t.1) (prefix_trans t.0.sight.seen s'.sight.seen v rises begins) (turns_left turns t.0 s' v t.2 begins l)

-- a close changes neither the journal nor a stop
closed_logged : (d now : DeskView) (w : WatcherView) (posts : List PostView) (log : List LogEntry) → IsLogged d log → IsClosed d w posts now → IsLogged now log
closed_logged d now w posts log h c = record { journal = ap (λ (x : DeskView). x.journal) c.desk ∙ h.journal; stopped = ap (λ (x : DeskView). x.stopped) c.desk ∙ h.stopped }

follows_in_order : (w : WatcherView) (seen : List LogEntry) → WasLeft (Some w) seen → FollowsInOrder w seen
follows_in_order w seen l =
    let g = l.2 in
    let left = l.3 in
    let posts : List PostView = left.1 in
    let now = left.2 in
    let s = left.6 in
    let es = s.history.events in
    let c : HasClosed now.capacity es (record w { half = record w.half { taken = w.half.taken ++ g.0; told = g.1 } }) posts = subst (λ (v : WatcherView). HasClosed now.capacity es v posts) g.2 s.follows in
    let first : posted_since now.capacity es c.followed.at w.key ≡ w.half.taken ++ (g.0 ++ posts) = c.rest ∙ append_assoc w.half.taken g.0 posts in record {
      desk = now;
      history = s.history;
      log = l.1;
      logged = closed_logged left.0 now l.0 posts l.1 left.4 left.5;
      begins = l.4;
      at = c.followed.at;
      began = c.followed.began;
      later = g.0 ++ posts;
      posted = first;
      in_order = c.followed.in_order;
      run = told_in_order now.capacity es c.followed.at w.key w.half.opening c.followed.began w.half.taken (g.0 ++ posts) first;
      tables = told_tables now.capacity es c.followed.at w.key w.half.opening c.followed.began w.half.taken (g.0 ++ posts) first;
    }

-- what a session's watcher has taken after each of its lines is in order, and gives the tables
pub shared_sessions_follow : SharedSessionsFollow
shared_sessions_follow before later sent written by v v' s front back is =
    let t = turns_split front back (new_session v) s.state (subst (λ (l : List SharedTurn). AreTurns (new_session v) l s.state) is s.told) in
    let last : IsPrefix s.state.sight.seen s.final.sight.seen = (ends_act by s.turns s.state s.last s.rest later s.out s.final s.ends).2.rises in
    let left = turns_left back t.0 s.state v'.seen t.2 (prefix_trans s.state.sight.seen s.final.sight.seen v'.seen last s.sight.1.0) s.left in
    (t.0, t.1, t.2, λ w own. follows_in_order w v'.seen (subst (λ (o : Option WatcherView). WasLeft o v'.seen) own left))
