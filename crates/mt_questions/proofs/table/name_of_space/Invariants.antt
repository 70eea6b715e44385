use Rattle.std.proofs.Common.{◌≡◌, drop, find}
use Rattle.mt_questions.specs.Tables.{goes_by}
use Rattle.mt_questions.proofs.table.name_of_space.Given as goal

-- none of those passed is the namespace
abbrev pub invariant-names : goal.invariant-names
invariant-names l = find (goes_by l.space) (drop l.name-index l.names) ≡ find (goes_by l.space) l.names
