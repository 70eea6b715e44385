use Rattle.std.proofs.Common.{sym, subst}
use Rattle.mt_propagate.specs.World.{world_view}
use Rattle.mt_propagate.specs.Touched.{IsTouched}
use Rattle.mt_events.proofs.HeldLaws.{rows_held}
use Rattle.mt_trace.proofs.stage_changes.changed_rows.Goals as goal

pub returns-clause-held : goal.returns-clause-held
returns-clause-held c =
    let w = world_view c.args.before.now in
    let v = world_view c.args.after.now in
    rows_held w v c.deref.result.now c.in_ok-rows.rows.items c.requires.before c.requires.after (sym c.requires.skel) (subst (IsTouched w v) (sym c.deref.ensures.value) c.in_ok-ids.ensures.touched)
    c.in_ok-rows.ensures.rows
