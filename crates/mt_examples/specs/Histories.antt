-- What two sessions leave in the one history of their desk.
-- A word with no source is this project's rule.
use Rattle.std.specs.Prelude.{◌≡◌, ◌≢◌, ℕ, List, [], Option, Some}
use Rattle.mt_desk.specs.declared.act.LogEntry.{LogEntry}
use Rattle.mt_desk.specs.Entries.{WitnessView, acts_by, IsSeen}
use Rattle.mt_session.specs.declared.serving.End.{End}
use Rattle.mt_session.specs.SharedSession.{ServedShared}

-- a session that had done nothing was served these lines, and has seen so much of the history then
pub record WasServed (lines : List ℕ) (v' : WitnessView) : Type 0 where
  pub v : WitnessView
  pub fresh : acts_by v.by v.seen ≡ []
  pub later : Option (List ℕ)
  pub written : Option (List ℕ)
  pub by : End
  pub served : ServedShared (Some lines) later (Some []) written by v v'

-- two sessions are in this history: what each has seen begins it, and all that it did is in that; and they are two
pub record AreInHistory (first second : List ℕ) (log : List LogEntry) : Type 0 where
  pub one : WitnessView
  pub other : WitnessView
  pub first_served : WasServed first one
  pub second_served : WasServed second other
  pub first_seen : IsSeen one.by one.seen log
  pub second_seen : IsSeen other.by other.seen log
  pub differ : one.by ≢ other.by
