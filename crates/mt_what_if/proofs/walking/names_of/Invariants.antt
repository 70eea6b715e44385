use Rattle.std.proofs.Common.{◌≡◌, ◌++◌, length}
use Rattle.std.specs.List.{filter}
use Rattle.mt_skel.specs.Names.{is_name}
use Rattle.mt_what_if.proofs.walking.names_of.Given as goal

-- the names found, and those to come
abbrev pub invariant-pieces : goal.invariant-pieces
invariant-pieces l = l.names.items ++ filter is_name l.pieces ≡ filter is_name l.initial.pieces

abbrev pub decreases-pieces : goal.decreases-pieces
decreases-pieces l = length l.pieces
