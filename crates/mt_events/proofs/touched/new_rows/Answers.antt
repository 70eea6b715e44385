use Rattle.std.proofs.Common.{◌∙◌, get_or}
use Rattle.mt_propagate.specs.World.{world_view}
use Rattle.mt_propagate.specs.declared.world.World.{World}
use Rattle.mt_info.specs.Table.{table_of}
use Rattle.mt_events.specs.ByMount.{new_row}
use Rattle.mt_events.proofs.TouchedLaws.{collected-step}
use Rattle.mt_events.proofs.touched.new_rows.Goals as goal

pub mounts-preserved : goal.mounts-preserved
mounts-preserved c =
    let table : World → _ = λ w. table_of (world_view w) c.args.space in
    let old = c.mounts.invariant.same_before in
    let new = c.mounts.invariant.same_after in
    record {
      rows = collected-step _ _ _ 0 _ _ _ _ c.mounts-test.true c.mounts.invariant.rows (λ k. new_row (table (old k)) (table (new k)) (get_or c.args.touched.now c.mounts.id-index 0)) c.in_ok-push_new.ensures.rows;
      same_before = c.in_ok-push_new.ensures.before_kept ∙ old;
      same_after = c.in_ok-push_new.ensures.after_kept ∙ new;
    }
