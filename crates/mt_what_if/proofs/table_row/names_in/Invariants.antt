use Rattle.std.proofs.Common.{◌≡◌, length}
use Rattle.mt_what_if.specs.TableRows.{names_said_from}
use Rattle.mt_what_if.proofs.table_row.names_in.Given as goal

abbrev pub invariant-pieces : goal.invariant-pieces
invariant-pieces l = names_said_from l.names l.pieces ≡ names_said_from l.initial.names l.initial.pieces

abbrev pub decreases-pieces : goal.decreases-pieces
decreases-pieces l = length l.pieces
