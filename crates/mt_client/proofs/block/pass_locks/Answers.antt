use Rattle.std.proofs.Common.{◌≡◌, rules, subst}
use Rattle.mt_locks.specs.MountLocks.{locked_mount}
use Rattle.mt_info.specs.LockLine.{lock_line, IsLockRow}
use Rattle.mt_info.proofs.LockLineLaws.{lock_line-injective}
use Rattle.mt_client.specs.Locked.{AreLockLines}
use Rattle.mt_client.proofs.RisingLaws.{no_lines, lines_join, lines_ended}
use Rattle.mt_client.proofs.CallLaws.{handed_on, passes_as, passes_read, passes_nothing, passes_both, pass_fault_behind}
use Rattle.mt_client.proofs.block.pass_locks.Goals as goal

pub locking-init : goal.locking-init
locking-init g c = record { passed = passes_nothing g.O.Output _ _ _ c.requires.fresh (no_lines locked_mount lock_line IsLockRow) }

pub locking-preserved : goal.locking-preserved
locking-preserved g c = record { passed = passes_both (lines_join locked_mount lock_line IsLockRow c.locking._row c.locking.last c.in_ok-pass_lock.field-0) c.locking.invariant.passed c.in_ok-pass_lock.ensures.passed }

pub returns-in_err-pass_lock-clause-fault : goal.returns-in_err-pass_lock-clause-fault
returns-in_err-pass_lock-clause-fault g c =
    let p = c.locking.invariant.passed in
    handed_on _ _ _ c.from_residual.ensures.1
    (pass_fault_behind p.read p.out (lines_ended locked_mount lock_line IsLockRow lock_line-injective c.locking._row c.args.count c.locking.last _ _ (passes_read p) c.locking-test.true) c.in_err-pass_lock.ensures.fault)

pub returns-clause-passed : goal.returns-clause-passed
returns-clause-passed g c =
    let whole : c.locking._row ≡ c.args.count = search rules in
    passes_as (λ ls k. subst (λ n. AreLockLines n ls) whole k.0) c.locking.invariant.passed
