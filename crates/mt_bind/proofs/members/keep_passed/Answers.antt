use Rattle.std.proofs.Common.{◌∙◌, sym}
use Rattle.mt_propagate.specs.World.{world_view}
use Rattle.mt_bind.proofs.MemberLaws.{bound_step, judged_more}
use Rattle.mt_bind.proofs.members.keep_passed.Goals as goal

pub passed-preserved : goal.passed-preserved
passed-preserved c =
    let w = world_view c.args.world.now in
    let right = c.passed.invariant.answers c.if-here-from.false in
    record {
      judged = judged_more w c.args.from c.passed.judged c.insert.new.self c.passed.here c.args.bound c.passed.invariant.judged right c.in_ok-insert.ensures.updates.0;
      answers = λ off. right ∙ bound_step w c.args.from c.requires.well_formed _ _ c.if-here-from.false (sym c.is_unbindable.ensures ∙ c.if-is_unbindable.false) (sym c.parent.ensures ∙ c.in-Some.is) off;
    }
