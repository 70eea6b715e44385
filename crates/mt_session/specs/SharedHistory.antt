-- The one history of all sessions at a desk: what a session's lines came to in it, and where in it they were answered.
-- A word with no source is this project's rule.
--
-- Each line that asks for more than posts is answered as at the desk after a beginning of the history (`IsAnsweredAt`), and these beginnings rise. The session's
-- acts in the history are those of its lines, once each and in order, and no others.
use Rattle.std.specs.Prelude.{◌≡◌, ◌⊎◌, ℕ, true, List, [], ◌∷◌, ◌++◌, Option, Result, Ok}
use mathlib.Core.List.{IsPrefix}
use Rattle.mt_skel.specs.declared.fault.Fault.{Fault}
use Rattle.mt_skel.specs.declared.fault.Fault.TheVariants.{Stopped, NoMemory}
use Rattle.mt_lines.specs.Lines.{Item}
use Rattle.mt_book.specs.declared.command.Command.{Command}
use Rattle.mt_book.specs.declared.command.Reply.{Reply}
use Rattle.mt_desk.specs.declared.act.Act.{Act}
use Rattle.mt_desk.specs.declared.act.Act.TheVariants as act
use Rattle.mt_desk.specs.Entries.{WitnessView, acts_by, has_stop}
use Rattle.mt_requests.specs.declared.request.Request.{Request}
use Rattle.mt_requests.specs.declared.request.Request.TheVariants.{Run, Stop as AsksStop}
use Rattle.mt_session.specs.declared.serving.End.{End}
use Rattle.mt_session.specs.Answers.{refusal, reply_text}
use Rattle.mt_session.specs.Session.{Asking, item_of, request_of_line}
use Rattle.mt_session.specs.SharedTurns.{SharedView}
use Rattle.mt_session.specs.SharedSession.{SharedTurn, IsTurn, AreTurns, ServedShared, new_session}

-- what a line came to in the history: a command that is answered by its reply, a stop, and nothing else
abbrev pub IsAct : Result Request Fault → List ℕ → List Act → Type 0
IsAct (Ok (Run c)) text acts =
    ((reply : Reply) × (text ≡ reply_text reply) × (acts ≡ act.Apply c ∷ []))
    ⊎ ((fault : Fault) × (text ≡ refusal fault) × (acts ≡ []))
IsAct (Ok AsksStop) text acts = acts ≡ act.Stop ∷ []
IsAct asked text acts = acts ≡ []

-- what lines came to, one after another
abbrev pub AreActs : List SharedTurn → List Act → Type 0
AreActs [] acts = acts ≡ []
AreActs (t ∷ turns) acts = (here : List Act) × (later : List Act) × IsAct (request_of_line t.line) t.text here × AreActs turns later × (acts ≡ here ++ later)

-- between two moments a session has seen more of the history, or as much, and has done just this
pub record HasActed (v : WitnessView) (acts : List Act) (v' : WitnessView) : Type 0 where
  pub session : v' ≡ record v { seen = v'.seen }
  pub rises : IsPrefix v.seen v'.seen
  pub acts_are : acts_by v.by v'.seen ≡ acts_by v.by v.seen ++ acts

-- what the line came to that ended a session, whatever of its answer went out; nothing where none did
abbrev pub IsLastAct : List Item → List Act → Type 0
IsLastAct last acts = (acts ≡ []) ⊎ ((line : Asking) × (text : List ℕ) × (last ≡ item_of line ∷ []) × IsAct (request_of_line line) text acts)

-- what a session did once it was served: its lines, and the one that ended it
pub record HasActedInAll (turns : List SharedTurn) (last : List Item) (v v' : WitnessView) : Type 0 where
  pub acts : List Act
  pub end_acts : List Act
  pub each : AreActs turns acts
  pub end : IsLastAct last end_acts
  pub acted : HasActed v (acts ++ end_acts) v'

-- so it is of each session, up to each of its lines and in all
abbrev pub SharedSessionsAct : Type 0
SharedSessionsAct =
    (before later sent written : Option (List ℕ)) (by : End) (v v' : WitnessView) (s : ServedShared before later sent written by v v') (front back : List SharedTurn)
    → s.turns ≡ front ++ back
    → (mid : SharedView) × (acts : List Act) × AreTurns (new_session v) front mid × AreTurns mid back s.state × AreActs front acts × HasActed v acts mid.sight × HasActedInAll s.turns s.last v v'

-- once a stop is in what a session has seen, no command of it is accepted
abbrev pub SharedStopsHold : Type 0
SharedStopsHold =
    (s s' : SharedView) (c : Command) (text : List ℕ) → has_stop s.sight.seen ≡ true → IsTurn s (Ok (Run c)) text s' → (text ≡ refusal Stopped) ⊎ (text ≡ refusal NoMemory)
