use Rattle.std.proofs.Common.{◌≡◌, ◌++◌, drop}
use Rattle.mt_world.proofs.put.place_path.Given as goal

-- the names passed, and those to come
abbrev pub invariant-loop-name : goal.invariant-loop-name
invariant-loop-name l = l.path.items ++ drop l.name-index l.names ≡ l.initial.path.items ++ l.names
