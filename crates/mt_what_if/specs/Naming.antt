-- The namespaces of tables, and those that lines make.
-- A word with no source is this project's rule.
use Rattle.std.specs.Prelude.{ℕ, ◌+◌, ◌-◌, Bool, true, false, ◌==◌, List, ◌++◌, map}
use Rattle.std.specs.List.{list_any, range_with_len}
use Rattle.mt_propagate.specs.World.{WorldView}
use Rattle.mt_what_if.specs.Numbers.{number_word}
use Rattle.mt_what_if.specs.KnownSpaces.{TitledSpace}
use Rattle.mt_what_if.specs.declared.asked.AskedLine.{AskedLine}
use Rattle.mt_what_if.specs.declared.numbers.Numbers.{Numbers}

-- what is there in a world has the numbers below the next ones, and later numbers are told apart
abbrev pub numbers_of : WorldView → Numbers
numbers_of w = record { mounts = w.next_mount - 1; groups = w.peering.next - 1; counted = true }

-- a line is of a namespace
abbrev pub is_named_by : List AskedLine → ℕ → Bool
is_named_by lines n = list_any (λ (line : AskedLine). line.space == n) lines

-- a namespace is named if a line is of it
abbrev pub marked : List AskedLine → TitledSpace → TitledSpace
marked lines s = record s { is_named = is_named_by lines s.number }

-- those that lines make count as new from the last one before
abbrev pub made_space : ℕ → ℕ → TitledSpace
made_space last n = record { number = n; name = number_word true last n; is_named = false; is_new = true }

-- the namespaces of the tables, and those that the lines made on the way from one world to another one
unfoldable pub spaces_told : List TitledSpace → List AskedLine → WorldView → WorldView → List TitledSpace
spaces_told names lines w v = map (marked lines) names ++ map (made_space (w.next_space - 1)) (range_with_len (w.next_space - 1 + 1) (v.next_space - (w.next_space - 1 + 1)))
