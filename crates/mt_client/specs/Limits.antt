-- How much a server of the greatest room tells at once, since it has no more: what says more is none of its lines.
-- A word with no source is this project's rule (mountd-lines(7)).
use Rattle.std.specs.Prelude.{ℕ, nat_le, if◌then◌else◌, Option, Some, None}

-- the rows of all namespaces
abbrev pub most_rows : ℕ
most_rows = 1048576

-- the lines of an opening behind its first one: these rows, and one line for each of 16,384 namespaces
abbrev pub most_opening_lines : ℕ
most_opening_lines = 1064960

-- the lines of a post behind its first one: as many mounts that left, and as many rows, as there may be
abbrev pub most_post_lines : ℕ
most_post_lines = 2097152

-- the lines of the posts that wait: 16,384 posts, which is all that a queue holds, each with its first line
abbrev pub most_waiting_lines : ℕ
most_waiting_lines = 34359754752

-- the commands that are listed
abbrev pub most_listed : ℕ
most_listed = 1024

-- the namespaces
abbrev pub most_spaces : ℕ
most_spaces = 16384

-- a number that is no greater than this
abbrev pub at_most : ℕ → Option ℕ → Option ℕ
at_most most None = None
at_most most (Some n) = if nat_le n most then Some n else None
