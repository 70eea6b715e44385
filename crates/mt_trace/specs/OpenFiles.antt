-- The open descriptors of a process, by rising number (open(2), close(2), close_range(2), execve(2)).
-- A word with no source is this project's rule.
use Rattle.std.specs.Prelude.{ℕ, nat_le, not, ◌&&◌, List, Option}
use Rattle.std.specs.BTreeMap.{is_at}
use Rattle.std.specs.List.{filter}
use Rattle.std.specs.Map.{lookup, remove_entry}
use Rattle.std.specs.Ordering.{nat_cmp}
use Rattle.mt_trace.specs.declared.open_files.Opened.{Opened}

-- descriptors, each with what it leads to
abbrev pub Files : Type 0
Files = List (ℕ × Opened)

abbrev pub opened_at : ℕ → Files → Option Opened
opened_at n files = lookup (is_at (nat_cmp n)) files

abbrev pub without_descriptor : ℕ → Files → Files
without_descriptor n files = remove_entry (is_at (nat_cmp n)) files

abbrev pub closed_between : ℕ → ℕ → Files → Files
closed_between first last files = filter (λ row. not (nat_le first row.0 && nat_le row.0 last)) files

-- another program has the descriptors that are not closed by its start
abbrev pub executed : Files → Files
executed files = filter (λ row. not row.1.closes_on_exec) files
