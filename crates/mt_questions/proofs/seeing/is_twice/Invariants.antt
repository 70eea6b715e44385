use Rattle.std.proofs.Common.{◌≡◌, ◌+◌, nat_lt, cond, drop}
use Rattle.mt_questions.specs.Seeing.{lines_count}
use Rattle.mt_questions.proofs.seeing.is_twice.Given as goal

-- one line at most is among the tables passed
abbrev pub invariant-tables : goal.invariant-tables
invariant-tables l = nat_lt 1 (cond l.found 1 0 + lines_count (drop l.table-index l.tables) l.id) ≡ nat_lt 1 (lines_count l.tables l.id)
