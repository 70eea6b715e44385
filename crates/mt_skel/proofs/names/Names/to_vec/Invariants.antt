use Rattle.std.proofs.Common.{◌≡◌, ◌++◌, IsTrue, length}
use Rattle.std.specs.List.{list_all}
use Rattle.mt_skel.specs.Names.{is_name}
use Rattle.mt_skel.proofs.names.Names.to_vec.Given as goal

-- the names made, and those to come, which are names
abbrev pub invariant-pieces : goal.invariant-pieces
invariant-pieces l = record {
  made : l.names.items ++ l.pieces ≡ l.self;
  valid : IsTrue (list_all is_name l.pieces);
}

abbrev pub decreases-pieces : goal.decreases-pieces
decreases-pieces l = length l.pieces
