use Rattle.std.proofs.Common.{◌∙◌, refl}
use Rattle.mt_floor.specs.declared.event.Event.TheVariants.{Take}
use Rattle.mt_floor.proofs.SettledLaws.{take_idle}
use Rattle.mt_session.proofs.TurnLaws.{step_is, floor_is, idle_behind, taken_next}
use Rattle.mt_session.proofs.session.take_told.Goals as goal

pub posts-preserved : goal.posts-preserved
posts-preserved c =
    let e = c.step.ensures in
    let is = step_is c.posts.floor c.step.new.self (Take c.args.key) c.step.result refl e.done e.refused e.memory in
    record {
      idle = idle_behind _ _ _ _ is (take_idle c.posts.floor c.args.key c.posts.invariant.idle);
      taken = taken_next c.posts.floor c.step.new.self c.args.key c.posts._index c.args.count (floor_is _ _ _ _ is) c.posts-test.true ∙ c.posts.invariant.taken;
    }
