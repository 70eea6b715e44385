-- How many accepts have failed in succession, and what a round of a server says of them.
-- A word with no source is this project's rule.
use Rattle.std.specs.Prelude.{ℕ, ◌+◌, Bool, true, false, Result, Ok, Err}
use Rattle.mt_session.specs.declared.accepting.Round.{Round}
use Rattle.mt_session.specs.declared.accepting.Round.TheVariants.{Over, Arrived, Missed, GivesUp}

-- how many have failed one after another, if before this one so many had
abbrev pub failures_after : {T E : Type 0} → ℕ → Result T E → ℕ
failures_after failed (Ok x) = 0
failures_after failed (Err e) = failed + 1

-- as many as end a server
abbrev pub most_failures : ℕ
most_failures = 1000

-- whether the server is over
abbrev pub is_over : Round → Bool
is_over Over = true
is_over (Arrived stream) = false
is_over Missed = false
is_over GivesUp = false

-- how many have failed one after another with this round, if before it so many had; a server that is over does not count
abbrev pub failures_with : Round → ℕ → ℕ
failures_with Over failed = failed
failures_with (Arrived stream) failed = 0
failures_with Missed failed = failed + 1
failures_with GivesUp failed = failed + 1
