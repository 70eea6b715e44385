use Rattle.std.proofs.Common.{[]}
use Rattle.mt_locks.specs.MountLocks.{locked_mount}
use Rattle.mt_info.specs.LockLine.{lock_line, IsLockRow}
use Rattle.mt_client.specs.Calls.{PassesOn}
use Rattle.mt_client.proofs.RisingLaws.{AreLinesTo}
use Rattle.mt_client.proofs.block.pass_locks.Given as goal

-- so many lines were passed on
abbrev pub invariant-locking : goal.invariant-locking
invariant-locking g l = record { passed : PassesOn g.O.Output [] (AreLinesTo locked_mount lock_line IsLockRow l._row l.last) l.initial.lines l.lines l.initial.out l.out }
