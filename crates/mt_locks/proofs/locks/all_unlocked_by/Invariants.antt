use Rattle.std.proofs.Common.{◌≡◌, ◌++◌, map, drop}
use Rattle.mt_locks.specs.Locks.{unlocked_by}
use Rattle.mt_locks.proofs.locks.all_unlocked_by.Given as goal

-- those passed, and those to come
abbrev pub invariant-loop-row : goal.invariant-loop-row
invariant-loop-row l = l.all.items ++ map (unlocked_by l.met) (drop l.row-index l.mounts) ≡ map (unlocked_by l.met) l.mounts
