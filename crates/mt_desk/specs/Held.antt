-- What contracts see of a desk with its history, and how the two agree.
-- A word with no source is this project's rule.
use Rattle.std.specs.Prelude.{◌≡◌, List}
use Rattle.mt_queue.specs.Halves.{LineId}
use Rattle.mt_desk.specs.declared.act.LogEntry.{LogEntry}
use Rattle.mt_desk.specs.Entries.{HistoryView, commands_of, has_stop}
use Rattle.mt_desk.specs.Desk.{DeskView}

-- a desk, and the acts of its sessions that led to it, each with the number of its session
pub record HeldView : Type 0 where
  pub desk : DeskView
  pub log : List LogEntry

-- The accepted commands of the history are the journal of the desk, and the desk is stopped where the history has a stop.
pub record IsLogged (d : DeskView) (log : List LogEntry) : Type 0 where
  pub journal : d.journal ≡ commands_of log
  pub stopped : d.stopped ≡ has_stop log

-- what is always true of a desk with its history
pub record IsHeld (name : LineId) (d : DeskView) (h : HistoryView) : Type 0 where
  pub name_is : h.table ≡ name
  pub told : IsLogged d h.log
