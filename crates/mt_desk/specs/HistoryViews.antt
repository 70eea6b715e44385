-- What passes know: the desk's knows the history, a session's a beginning of it.
-- A word with no source is this project's rule.
use Rattle.std.specs.Prelude.{ℕ, true, false, List, []}
use Rattle.mt_desk.specs.declared.act.LogEntry.{LogEntry}
use Rattle.mt_desk.specs.declared.history_rule.PassView.{PassView}

-- the desk's: the history, and the number of the next session
abbrev pub keeper : List LogEntry → ℕ → PassView
keeper all next = record { knows = true; all = all; next = next; calls = false; by = 0; seen = []; pairs = false; other = 0; beside = [] }

-- a session's: its number, and what it has seen
abbrev pub caller : ℕ → List LogEntry → PassView
caller by seen = record { knows = false; all = []; next = 0; calls = true; by = by; seen = seen; pairs = false; other = 0; beside = [] }

-- both, while they meet
abbrev pub both : List LogEntry → ℕ → ℕ → List LogEntry → PassView
both all next by seen = record { knows = true; all = all; next = next; calls = true; by = by; seen = seen; pairs = false; other = 0; beside = [] }

-- two sessions', while these meet
abbrev pub pair : ℕ → List LogEntry → ℕ → List LogEntry → PassView
pair by seen other beside = record { knows = false; all = []; next = 0; calls = true; by = by; seen = seen; pairs = true; other = other; beside = beside }

-- one that is used up
abbrev pub used_up : PassView
used_up = record { knows = false; all = []; next = 0; calls = false; by = 0; seen = []; pairs = false; other = 0; beside = [] }
