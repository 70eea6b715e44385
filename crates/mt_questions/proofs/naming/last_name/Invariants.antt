use Rattle.std.proofs.Common.{◌≡◌, [], fold, length}
use Rattle.mt_questions.specs.Naming.{later_piece}
use Rattle.mt_questions.proofs.naming.last_name.Given as goal

-- the last piece of those passed, and of those to come
abbrev pub invariant-pieces : goal.invariant-pieces
invariant-pieces l = fold later_piece l.last l.pieces ≡ fold later_piece [] l.initial.pieces

abbrev pub decreases-pieces : goal.decreases-pieces
decreases-pieces l = length l.pieces
