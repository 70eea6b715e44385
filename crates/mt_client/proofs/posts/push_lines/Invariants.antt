use Rattle.std.proofs.Common.{◌≡◌, ℕ, List, ◌++◌, length}
use Rattle.mt_client.specs.Reading.{printed}
use Rattle.mt_client.specs.Calls.{AreRead}
use Rattle.mt_client.proofs.posts.push_lines.Given as goal

-- so many lines were appended
abbrev pub invariant-lines : goal.invariant-lines
invariant-lines g l = record { came : (all : List (List ℕ)) × (length all ≡ l._line) × AreRead all l.initial.lines l.lines × (l.text.items ≡ l.initial.text.items ++ printed all) }
