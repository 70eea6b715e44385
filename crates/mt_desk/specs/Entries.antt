-- The history of a desk: the acts of its sessions, each with the number of its session.
-- A word with no source is this project's rule.
use Rattle.std.specs.Prelude.{◌≡◌, ℕ, ◌==◌, Bool, true, false, List, [], ◌∷◌, map}
use Rattle.std.specs.List.{filter}
use mathlib.Core.List.{IsPrefix}
use Rattle.atomic_table.specs.Seated.{TableId}
use Rattle.mt_book.specs.declared.command.Command.{Command}
use Rattle.mt_desk.specs.declared.act.Act.{Act}
use Rattle.mt_desk.specs.declared.act.Act.TheVariants.{Apply, Stop}
use Rattle.mt_desk.specs.declared.act.LogEntry.{LogEntry}

abbrev pub entry : ℕ → Act → LogEntry
entry by a = record { by = by; act = a }

-- these acts of one session, as entries
abbrev pub entries : ℕ → List Act → List LogEntry
entries by cs = map (entry by) cs

-- the acts of one session, in the order of the history
abbrev pub acts_by : ℕ → List LogEntry → List Act
acts_by by log = map (λ (e : LogEntry). e.act) (filter (λ (e : LogEntry). e.by == by) log)

-- the accepted commands of a history
abbrev pub command_first : Act → List Command → List Command
command_first (Apply c) cs = c ∷ cs
command_first Stop cs = cs

abbrev pub commands_of : List LogEntry → List Command
commands_of [] = []
commands_of (e ∷ log) = command_first e.act (commands_of log)

-- whether a history has a stop
abbrev pub is_stop : Act → Bool → Bool
is_stop (Apply c) later = later
is_stop Stop later = true

abbrev pub has_stop : List LogEntry → Bool
has_stop [] = false
has_stop (e ∷ log) = is_stop e.act (has_stop log)

-- a session has seen a beginning of the history, in which are all its own acts
abbrev pub IsSeen : ℕ → List LogEntry → List LogEntry → Type 0
IsSeen by seen log = IsPrefix seen log × (acts_by by log ≡ acts_by by seen)

-- the history that lies under a lock: which it is, and its entries
pub record HistoryView : Type 0 where
  pub table : TableId
  pub log : List LogEntry

-- a session: of which history, its number, and the beginning that it has seen
pub record WitnessView : Type 0 where
  pub table : TableId
  pub by : ℕ
  pub seen : List LogEntry
