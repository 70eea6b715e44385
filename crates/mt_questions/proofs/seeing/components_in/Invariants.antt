use Rattle.std.proofs.Common.{◌≡◌, ◌++◌}
use Rattle.std.specs.List.{filter}
use Rattle.mt_questions.specs.Seeing.{is_component}
use Rattle.mt_questions.proofs.seeing.components_in.Given as goal

-- the names of the pieces passed, and of those to come
abbrev pub invariant-pieces : goal.invariant-pieces
invariant-pieces l = l.path ++ filter is_component l.piece-iterator ≡ filter is_component l.initial.piece-iterator
