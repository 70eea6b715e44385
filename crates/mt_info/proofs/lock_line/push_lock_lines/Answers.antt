use Rattle.std.proofs.Common.{refl, arith}
use Rattle.std.specs.List.{flat_map}
use Rattle.mt_info.specs.LockLine.{whole_lock_line}
use Rattle.mt_info.proofs.FrontLaws.{passed_one, passed_all}
use Rattle.mt_info.proofs.lock_line.push_lock_lines.Goals as goal

pub loop-row-preserved : goal.loop-row-preserved
loop-row-preserved c =
    passed_one whole_lock_line c.args.rows.now c.loop-row.row-index _ _ _ _ c.loop-row-test.true c.in_ok-push_lock_line.ensures.text c.loop-row.invariant

pub returns : goal.returns
returns c = record {
  text = passed_all (λ rows. flat_map whole_lock_line rows) c.args.rows.now c.loop-row.row-index _ _ refl (omega (arith, c.loop-row-test.false)) c.loop-row.invariant;
}
