-- One line of a plain session, as its steps see it.
-- A word with no source is this project's rule.
use Rattle.std.specs.Prelude.{◌≡◌, ℕ, List, true, Option, None, Some}
use Rattle.std.specs.Option.{ForSome}
use Rattle.mt_events.specs.declared.opening.Opening.{Opening}
use Rattle.mt_book.specs.declared.command.Reply.{Reply}
use Rattle.mt_floor.specs.declared.watch.Phase.{Phase}
use Rattle.mt_floor.specs.declared.event.Answer.{Answer}
use Rattle.mt_floor.specs.declared.event.Answer.TheVariants.{Replied, Opened, Met}
use Rattle.mt_session.specs.declared.serving.End.{End}
use Rattle.mt_floor.specs.Schedule.{FloorView}
use Rattle.mt_session.specs.Requests.{SessionState, session_state}
use Rattle.mt_session.specs.Answering.{Answering, ends_whole, IsSent, ServesNext}
use Rattle.mt_session.specs.Session.{Growth, Asking, Whole, Turn, answer_to_turn, state_after_turn, end_of_turn, ServedThen, ServedLine}

abbrev pub the_turn : Asking → Growth → Turn
the_turn line growth = record { line = line; growth = growth }

-- a line was answered with this text, which ends the session so, or does not
abbrev pub Answered : SessionState → SessionState → Asking → List ℕ → Option End → Type 0
Answered old new line text end =
    (growth : Growth) × (text ≡ answer_to_turn old (the_turn line growth)) × (new ≡ state_after_turn old (the_turn line growth)) × (end ≡ end_of_turn (the_turn line growth))

-- a session's lines, with its watcher as they left it
abbrev pub Ran : Option (List ℕ) → Option (List ℕ) → SessionState → SessionState → Option (List ℕ) → Option (List ℕ) → End → Type 0
Ran before later old new sent written by = ServedThen (λ state. state) before later old new sent written by

-- a whole line was answered on a floor, on which nothing is due, by a session that has this watcher
abbrev pub OnFloor : Answering (FloorView × Option ℕ)
OnFloor s line sent written end s' =
    (text : List ℕ) × (wanted : Option End) × Answered (session_state s.0 s.1) (session_state s'.0 s'.1) (Whole line) text wanted × ForSome wanted (λ e. ends_whole e ≡ true)
    × IsSent sent written text wanted end

-- what is served next is one line, or the end of the session in its place
abbrev pub LinesAreServed : Type 0
LinesAreServed =
    (before later : Option (List ℕ)) (s s' : FloorView × Option ℕ) (sent written : Option (List ℕ)) (end : Option End) → ServesNext OnFloor before s sent end later s' written
    → ServedLine before later (session_state s.0 s.1) (session_state s'.0 s'.1) sent written end

-- what an answer of the floor holds
abbrev pub reply_in : Answer → Option Reply
reply_in (Replied r) = Some r
reply_in a = None

abbrev pub begun_in : Answer → Option (ℕ × Opening)
begun_in (Opened key o) = Some (key, o)
begun_in a = None

abbrev pub phase_in : Answer → Option Phase
phase_in (Met m) = Some m.state
phase_in a = None
