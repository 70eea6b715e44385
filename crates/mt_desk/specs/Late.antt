-- What the floor's watcher of a row has taken, where only meetings are known: takes are placed as late as they can be.
-- A word with no source is this project's rule.
use Rattle.std.specs.Prelude.{ℕ, ◌-◌, List, length, take, max}
use Rattle.mt_events.specs.Posts.{PostView}

-- so many posts of those that were sent: all that a meeting saw taken, and as many as must be gone where the rest fits into the queue
abbrev pub late_count : ℕ → ℕ → ℕ → ℕ
late_count capacity met sent = max met (sent - capacity)

-- the first posts that were sent, as many as these
abbrev pub late : ℕ → ℕ → List PostView → List PostView
late capacity met sent = take (late_count capacity met (length sent)) sent
